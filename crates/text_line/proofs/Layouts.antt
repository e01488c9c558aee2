-- The layouts of forms, and of lines with no field up to four.
use mathlib.Core.Path.{◌≡◌}
use mathlib.Core.List.{[], ◌∷◌}
use Rattle.text_line.specs.declared.Rule.{Rule as HeldRule}
use mathlib.Core.Bool.{true}
use Rattle.text_grammar.specs.Line.{Form}
use Rattle.text_line.specs.Layout.{no_rule, laid_out, form_of, is_layout, layout_for}

-- a form that a layout holds: the layout means it, and is within the limits
pub record Laying (f : Form) : Type 0 where
  pub means : form_of (layout_for f).rules ≡ f
  pub fine : is_layout (layout_for f).rules ≡ true
