-- The lines of a chip before its end, and that each part put last into the chip puts its line last.
use mathlib.Core.Path.{◌≡◌}
use mathlib.Core.List.{List, [], ◌∷◌, ◌++◌, map, map-append, append-nil, append_assoc}
use Prim.Native.Nat.{◌<◌}
use native.Mathlib.Omega.{arith}
use lib.ListN.{length}
use Rattle.model.specs.declared.Die.{Die}
use Rattle.model.specs.declared.Fix.{Fix}
use Rattle.model.specs.declared.Mac.{Mac}
use Rattle.model.specs.Meaning.{Pin, Net, Chip}
use Rattle.chip_text.specs.Kind.{add_pin, with_die, with_fix, with_mac, with_net, with_pin}
use Rattle.chip_text.specs.Text.{Item, die_item, fix_item, mac_item, net_item, pin_item, end_item, net_items, chip_items}

abbrev pub body : Chip → List Item
body c = die_item c.die ∷ (map fix_item c.fixes ++ (map mac_item c.macs ++ net_items c.nets))

-- the lines of nets, the last of them with one pin more
nets_pin : (p : Pin) (ts : List Net) → 0 < length ts → net_items (add_pin p ts) ≡ net_items ts ++ (pin_item p ∷ [])
unfolding net_items add_pin
nets_pin p [] h = absurd (omega arith)
nets_pin p (t ∷ []) h = simp (map-append, append-nil)
nets_pin p (t ∷ (u ∷ ts)) h = rw (nets_pin p (u ∷ ts) (omega arith)) (simp append_assoc)

-- the lines of nets, the last of them without pins
nets_net : (t : Net) (ts : List Net) → t.pins ≡ [] → net_items (ts ++ (t ∷ [])) ≡ net_items ts ++ (net_item t ∷ [])
unfolding net_items
nets_net t [] h = rw h
nets_net t (u ∷ ts) h = rw (nets_net t ts h) (simp append_assoc)

pub nets_kept : (p : Pin) (ts : List Net) → 0 < length ts → 0 < length (add_pin p ts)
unfolding add_pin
nets_kept p [] h = h
nets_kept p (t ∷ []) h = omega arith
nets_kept p (t ∷ (u ∷ ts)) h = omega arith

-- an item after two lists, where nothing follows them
last_item : (d : Item) (a b : List Item) (x : Item) → d ∷ (a ++ ((b ++ (x ∷ [])) ++ [])) ≡ (d ∷ (a ++ (b ++ []))) ++ (x ∷ [])
last_item d a b x = simp (append_assoc, append-nil)

module _ (c : Chip) where
  pub body_end : body c ++ (end_item ∷ []) ≡ chip_items c
  unfolding chip_items
  body_end = simp append_assoc

  pub body_pin : (p : Pin) → 0 < length c.nets → body (with_pin c p) ≡ body c ++ (pin_item p ∷ [])
  body_pin p h = rw (nets_pin p c.nets h) (simp append_assoc)

  pub body_net : (t : Net) → t.pins ≡ [] → body (with_net c t) ≡ body c ++ (net_item t ∷ [])
  body_net t h = rw (nets_net t c.nets h) (simp append_assoc)

  module _ (n : c.nets ≡ []) where
    pub body_mac : (m : Mac) → body (with_mac c m) ≡ body c ++ (mac_item m ∷ [])
    unfolding net_items
    body_mac m = rw (n, map-append mac_item c.macs (m ∷ [])) (last_item (die_item c.die) (map fix_item c.fixes) (map mac_item c.macs) (mac_item m))

    module _ (m : c.macs ≡ []) where
      pub body_fix : (f : Fix) → body (with_fix c f) ≡ body c ++ (fix_item f ∷ [])
      unfolding net_items
      body_fix f = rw (n, m, map-append fix_item c.fixes (f ∷ [])) (last_item (die_item c.die) [] (map fix_item c.fixes) (fix_item f))

      pub body_die : (d : Die) → c.fixes ≡ [] → body (with_die c d) ≡ die_item d ∷ []
      unfolding net_items
      body_die d f = rw (n, m, f)
