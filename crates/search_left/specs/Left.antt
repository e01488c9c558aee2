-- What is left of a branch: the fits of the four letters of a pair, and the differences kept in both directions.
use Rattle.std.specs.Prelude.{ℕ, ◌<◌, ◌≡◌, Bool, true, List, [], ◌∷◌, ◌⊎◌, Option, MatchOption, get_or, set}
use Rattle.model.specs.declared.Spot.{Spot}
use Rattle.model.specs.declared.Record.{Record as HeldRecord}
use Rattle.placement.specs.Least.{nothing}
use Rattle.axis_bounds.specs.declared.Slot.{Slot}
use Rattle.fit_slots.specs.declared.Direction.{Direction}
use Rattle.fit_slots.specs.declared.Direction.TheVariants.{Horizontal as horizontal, Vertical as vertical}
use Rattle.search_halves.specs.Kept.{value_on}
use Rattle.search_kept.specs.Differences.{KeptBy, Holds, limited, contrary}
use Rattle.search_best.specs.Best.{best_of}
use Rattle.search_node.specs.Letters.{way_at}
use Rattle.search_node.specs.Node.{no_record}
use Rattle.search_left.specs.declared.Left.{Left}

-- ---- differences

-- the placement keeps the differences of both directions
pub record KeepsBoth (kx ky : List ℕ) (ps : List Spot) : Type 0 where
  pub x : KeptBy kx (value_on horizontal ps)
  pub y : KeptBy ky (value_on vertical ps)

-- the tables rx, ry stand for kx, ky and one difference more, in direction d
pub record AddsOn (d : Direction) (kx ky : List ℕ) (s : Slot) (rx ry : List ℕ) : Type 0 where
  pub to : (ps : List Spot) → KeepsBoth kx ky ps → Holds (value_on d ps) s → KeepsBoth rx ry ps
  pub back : (ps : List Spot) → KeepsBoth rx ry ps → KeepsBoth kx ky ps
  pub own : (ps : List Spot) → KeepsBoth rx ry ps → Holds (value_on d ps) s

-- ---- the four children, in the order L, R, B, A

abbrev pub fit_at : Left → ℕ → HeldRecord
fit_at t i = get_or t.fits i no_record

abbrev pub child_list : Left → List HeldRecord
child_list t = fit_at t 0 ∷ fit_at t 1 ∷ fit_at t 2 ∷ fit_at t 3 ∷ []

abbrev pub child_at : List HeldRecord → ℕ → HeldRecord
child_at ks i = get_or ks i no_record

-- child i holds a placement
pub record HoldsAt (ks : List HeldRecord) (i : ℕ) : Type 0 where
  pub place : i < 4
  pub some : best_of (child_at ks i) ≡ nothing → ⊥

-- no child does
pub record NoneHolds (ks : List HeldRecord) : Type 0 where
  pub none : (i : ℕ) → i < 4 → best_of (child_at ks i) ≡ nothing

-- r is the place of a child that holds a placement, where one does
abbrev pub NextChild : List HeldRecord → Option ℕ → Type 0
NextChild ks r = MatchOption r (NoneHolds ks) (HoldsAt ks)

-- ---- what is answered

-- yes says that nothing keeps the differences
pub record Over (b : Bool) (kx ky : List ℕ) : Type 0 where
  pub none : b ≡ true → (ps : List Spot) → KeepsBoth kx ky ps → ⊥

-- yes says that nothing keeps the differences and the slot s of letter i
pub record ExcludedBy (b : Bool) (i : ℕ) (s : Slot) (kx ky : List ℕ) : Type 0 where
  pub none : b ≡ true → (ps : List Spot) → KeepsBoth kx ky ps → Holds (value_on (way_at i) ps) (limited s) → ⊥

-- the opposite of letter i, whose slot is s, is kept too
pub record OppositeKept (t : Left) (i : ℕ) (s : Slot) (r : Left) : Type 0 where
  pub children : child_list r ≡ child_list t
  pub adds : AddsOn (way_at i) t.kx t.ky (contrary (limited s)) r.kx r.ky

-- other children, and the same differences
pub record SameKept (t r : Left) (ks : List HeldRecord) : Type 0 where
  pub children : child_list r ≡ ks
  pub x : r.kx ≡ t.kx
  pub y : r.ky ≡ t.ky

-- nothing keeps the differences that are left, or no child holds a placement
pub record NothingLeft (t : Left) : Type 0 where
  pub none : ((ps : List Spot) → KeepsBoth t.kx t.ky ps → ⊥) ⊎ NoneHolds (child_list t)

-- r is the place of a child that holds a placement, where something is left
abbrev pub NextOrOver : Left → Option ℕ → Type 0
NextOrOver t r = MatchOption r (NothingLeft t) (HoldsAt (child_list t))

-- child i is gone, and the opposite of its letter, whose slot is u, is kept
pub record Visited (t : Left) (i : ℕ) (u : Slot) (r : Left) : Type 0 where
  pub children : child_list r ≡ set (child_list t) i no_record
  pub adds : AddsOn (way_at i) t.kx t.ky (contrary (limited u)) r.kx r.ky
