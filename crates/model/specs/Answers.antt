-- What the calls of a summary promise: from a sound state the defined answer and the defined state; and in any state, of
-- whatever hierarchy, what they leave as it was.
use Rattle.std.specs.Prelude.{◌≡◌, ℕ, ◌+◌, ◌<◌, ◌≤◌, true, false, length, Ok, Err, Result, MatchResult}
use Rattle.refusal.specs.declared.Refusal.{Refusal}
use Rattle.refusal.specs.declared.Refusal.TheVariants.{KeyNotValid, TotalTooLarge, NoFreeSlot}
use Rattle.prefix.specs.Meaning.{Meaning}
use Rattle.model.specs.State.{State, largest_total}
use Rattle.model.specs.Summary.{swept, sweep_answer, added, add_answer, bounds_answer}
use Rattle.model.specs.Sound.{Sound}

-- FROM A SOUND STATE

-- a call answers and leaves what is defined, and the state stays sound
pub record Defined {K R : Type 0} (m : Meaning K) (answer : R) (state : State K) (r : R) (after : State K) : Type 0 where
  pub answer_is : r ≡ answer
  pub state_is : after ≡ state
  pub stays_sound : Sound m after

abbrev pub AddsAsDefined : {K : Type 0} → Meaning K → State K → K → ℕ → State K → Result ℕ Refusal → Type 0
AddsAsDefined m before key weight after r =
    Sound m before → Defined m (add_answer m before key weight) (added m before key weight) r after

abbrev pub SweepsAsDefined : {K : Type 0} → Meaning K → State K → State K → ℕ → Type 0
SweepsAsDefined m before after r = Sound m before → Defined m (sweep_answer m before) (swept m before) r after

abbrev pub BoundsAsDefined : {K : Type 0} → Meaning K → State K → K → State K → Result (ℕ × ℕ) Refusal → Type 0
BoundsAsDefined m before key after r = Sound m before → Defined m (bounds_answer m before key) before r after

-- IN ANY STATE

-- settings and slots never change
pub record SameTable {K : Type 0} (before after : State K) : Type 0 where
  pub width_same : after.width ≡ before.width
  pub share_same : after.share ≡ before.share
  pub slots_same : after.slots ≡ before.slots

-- An add of a weight at a key. The refusals are checked in this order, and all but the last leave the state as it was.
pub record Adds {K : Type 0} (m : Meaning K) (before : State K) (key : K) (weight : ℕ) (after : State K) (r : Result ℕ Refusal) : Type 0 where
  pub table : SameTable before after
  pub key_not_valid : m.is_valid key ≡ false → (r ≡ Err KeyNotValid) × (after ≡ before)
  pub no_weight : m.is_valid key ≡ true → weight ≡ 0 → (r ≡ Ok before.total) × (after ≡ before)
  pub total_too_large : m.is_valid key ≡ true → 0 < weight → largest_total < before.total + weight → (r ≡ Err TotalTooLarge) × (after ≡ before)
  pub counted_or_full :
      m.is_valid key ≡ true → 0 < weight → before.total + weight ≤ largest_total →
      MatchResult r (λ n. (n ≡ before.total + weight) × (after.total ≡ n)) (λ e. (e ≡ NoFreeSlot) × (after.total ≡ before.total))

-- A sweep answers how many nodes it folded.
pub record Sweeps {K : Type 0} (before after : State K) (folded : ℕ) : Type 0 where
  pub table : SameTable before after
  pub total_same : after.total ≡ before.total
  pub fewer : length after.nodes + folded ≡ length before.nodes

-- The bounds of a key: the lower is not above the upper.
abbrev pub Bounds : {K : Type 0} → Meaning K → K → Result (ℕ × ℕ) Refusal → Type 0
Bounds m key r = MatchResult r (λ b. (m.is_valid key ≡ true) × (b.0 ≤ b.1)) (λ e. (m.is_valid key ≡ false) × (e ≡ KeyNotValid))

-- The row after a key may be absent; only a key that is not valid is refused.
abbrev pub RowsAfter : {K R : Type 0} → Meaning K → K → Result R Refusal → Type 0
RowsAfter m key r = MatchResult r (λ row. m.is_valid key ≡ true) (λ e. (m.is_valid key ≡ false) × (e ≡ KeyNotValid))
