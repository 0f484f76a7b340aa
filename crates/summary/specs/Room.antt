-- Room in a table for the missing names of a key.
use Rattle.std.specs.Prelude.{◌≡◌, ℕ, ◌+◌, ◌-◌, ◌<◌, ◌≤◌, true, false, cond, length, IfSome, Some, Option, MatchOption, nat_lt}
use Rattle.prefix.specs.Meaning.{Meaning}
use Rattle.model.specs.State.{State, state_tree}
use Rattle.model.specs.Summary.{has_room_for, roomy}
use Rattle.table.specs.declared.lookup.Ancestry.{Ancestry}
use Rattle.table.specs.Ancestors.{Ancestors}

pub record HasRoom {K : Type 0} (s : State K) (a : Ancestry) : Type 0 where
  pub within : a.at ≤ length s.nodes
  pub nearest_stored : IfSome a.nearest (λ i. i < length s.nodes)
  pub slots_enough : a.missing ≤ s.slots - length s.nodes

-- there is room for the missing names, and they are known, or there is none
abbrev pub Fits : {K : Type 0} → Meaning K → State K → K → Option Ancestry → Type 0
Fits m s key r =
    MatchOption r (has_room_for m s key ≡ false) (λ a. (has_room_for m s key ≡ true) × Ancestors m s.nodes key (state_tree s).root a)

-- a sweep runs if need be
pub record FindsRoom {K : Type 0} (m : Meaning K) (before : State K) (key : K) (after : State K) (r : Option Ancestry) : Type 0 where
  pub state_is : after ≡ roomy m before key
  pub answer_is : Fits m after key r

-- where the key's own node stands once the missing ones are made; none for the root
abbrev pub own_slot : Ancestry → Option ℕ
own_slot a = cond (nat_lt 0 a.missing) (Some (a.at + (a.missing - 1))) a.nearest
