-- What the small functions give.
use Prim.Native.Nat.{ℕ, zero, suc, ◌+◌, ◌-◌, ◌%◌, ◌≤◌, ◌<◌, min, max}
use mathlib.Core.Path.{◌≡◌, refl, sym, ap, ◌∙◌}
use mathlib.Core.List.{List, map}
use native.Mathlib.Omega.{arith}
use lib.ListN.{get_or, set, get_or-map}
use borrow.Author.Tests.{lt-ltb}
use Rattle.model.specs.declared.Mac.{Mac}
use Rattle.model.specs.Meaning.{blank_mac}
use Rattle.axis_bounds.specs.declared.Slot.{Slot}
use Rattle.fit_slots.specs.declared.Direction.{Direction}
use Rattle.fit_slots.specs.declared.Direction.TheVariants.{Horizontal as horizontal, Vertical as vertical}
use Rattle.fit_slots.specs.Slots.{mac_side}
use Rattle.half_arrays.specs.Arrays.{bound_at}
use Rattle.search_tables.specs.Tables.{place_on, bound_on, with_bound}
use Rattle.search_tables.specs.Entries.{with_entry}
use Rattle.search_tables.specs.Dots.{dot_bound}

pub bound_put : (arcs : List ℕ) (s : Slot) (old b r : ℕ) → old ≡ get_or arcs (place_on s) 0 % 33554432 → b ≡ bound_on s → r ≡ max old b → set arcs (place_on s) r ≡ with_bound arcs s
unfolding with_bound bound_at
bound_put arcs s old b r eo eb er =
    let p : place_on s % 128 ≡ place_on s = omega arith in
    rw (er, eo, eb, p)

pub entry_put : (tab : List ℕ) (e node most least net a b c g : ℕ) → a ≡ node % 65536 → b ≡ most % 65536 → c ≡ least % 65536 → g ≡ net % 65536 → set (set (set (set tab (e % 128) a) (128 + e % 128) b) (256 + e % 128) c) (384 + e % 128) g ≡ with_entry tab e node most least net
unfolding with_entry
entry_put tab e node most least net a b c g ea eb ec eg = rw (ea, eb, ec, eg)

-- ---- the bounds of a chip without letters

module _ (side n : ℕ) (ws : List ℕ) where
  dot_at : (u v : ℕ) → v ≡ 0 → u < n → (w r : ℕ) → w ≡ get_or ws u 0 → r ≡ 16777216 + min w 1000000 - min side 1000000 → r ≡ dot_bound side n ws (suc u) v
  dot_at u v e l w r ew er = rw (e, lt-ltb u n l, er, ew)

pub dot_die : (side n : ℕ) (d : Direction) (macs : List Mac) (u v : ℕ) → (u ≡ 0 → ⊥) → v ≡ 0 → u ≤ n → (w r : ℕ) → w ≡ mac_side d (get_or macs (u - 1) blank_mac) → r ≡ 16777216 + min w 1000000 - min side 1000000 → r ≡ dot_bound side n (map (mac_side d) macs) u v
dot_die side n d macs zero v h e l w r ew er = absurd (h refl)
dot_die side n d macs (suc u) v h e l w r ew er =
    let q : suc u - 1 ≡ u = omega arith in
    dot_at side n (map (mac_side d) macs) u v e (omega arith) w r (ew ∙ (ap (λ (k : ℕ). mac_side d (get_or macs k blank_mac)) q ∙ sym (size_at d u))) er
  where
    size_at : (d : Direction) (u : ℕ) → get_or (map (mac_side d) macs) u 0 ≡ mac_side d (get_or macs u blank_mac)
    size_at horizontal u = get_or-map (mac_side horizontal) macs u blank_mac
    size_at vertical u = get_or-map (mac_side vertical) macs u blank_mac
