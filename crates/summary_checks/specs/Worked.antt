-- A run worked out by hand: the definitions compute to it.
use Rattle.std.specs.Prelude.{◌≡◌, ℕ, List, [], ◌∷◌, Some, None, Ok, Err, Result}
use Rattle.refusal.specs.declared.Refusal.{Refusal}
use Rattle.refusal.specs.declared.Refusal.TheVariants.{WidthOutOfRange, ShareTooSmall, NoFreeSlot}
use Rattle.settings.specs.Rules.{settings_refusal}
use Rattle.octets.specs.declared.AddressPrefix.{AddressPrefix}
use Rattle.octets.specs.Octets.{net}
use Rattle.octets.specs.Meaning.{octet_meaning}
use Rattle.model.specs.State.{State, state_tree, opened}
use Rattle.model.specs.Summary.{added, add_answer, bounds_answer}

-- the state after some adds
abbrev pub after : State AddressPrefix → List (AddressPrefix × ℕ) → State AddressPrefix
after s [] = s
after s (x ∷ xs) = after (added octet_meaning s x.0 x.1) xs

-- 10.1.1.1 by 4, 10.1.1.2 by 5, 10.2.0.1 by 2, 11.0.0.1 by 1, 10.1.1.1 by 8
abbrev pub first : State AddressPrefix
first =
    after (opened 10 200 64) ((net 10 1 1 1 32, 4) ∷ ((net 10 1 1 2 32, 5) ∷ ((net 10 2 0 1 32, 2) ∷ ((net 11 0 0 1 32, 1) ∷ ((net 10 1 1 1 32, 8) ∷ [])))))

-- 10.2.0.9 by 1, 10.3.0.1 by 2
abbrev pub second : State AddressPrefix
second = after first ((net 10 2 0 9 32, 1) ∷ ((net 10 3 0 1 32, 2) ∷ []))

abbrev pub bounds_then : AddressPrefix → Result (ℕ × ℕ) Refusal
bounds_then k = bounds_answer octet_meaning second k

pub record WorkedRun : Type 0 where
  pub share_at_the_error : settings_refusal 10 100 ≡ Some ShareTooSmall
  pub share_above_the_error : settings_refusal 10 101 ≡ None
  pub width_too_small : settings_refusal 1 1000 ≡ Some WidthOutOfRange
  pub total : first.total ≡ 20
  pub root : (state_tree first).root ≡ record { own = 1; ceiling = 1 }
  pub stored :
      first.nodes ≡ record { key = net 10 0 0 0 8; own = 2; slack = 0; ceiling = 2 } ∷ (record { key = net 10 1 0 0 16; own = 0; slack = 0; ceiling = 0 } ∷ (record { key = net 10 1 1 0 24; own = 0; slack = 0; ceiling = 0 } ∷ (record { key = net 10 1 1 1 32; own = 12; slack = 0; ceiling = 0 } ∷ (record { key = net 10 1 1 2 32; own = 5; slack = 0; ceiling = 0 } ∷ []))))
  pub bounds_remade : bounds_then (net 10 2 0 0 16) ≡ Ok (1, 3)
  pub bounds_folded_host : bounds_then (net 10 2 0 1 32) ≡ Ok (0, 2)
  pub bounds_folded_branch : bounds_then (net 11 0 0 1 32) ≡ Ok (0, 1)
  pub bounds_new_host : bounds_then (net 10 3 0 1 32) ≡ Ok (2, 4)
  pub bounds_root : bounds_then (net 0 0 0 0 0) ≡ Ok (23, 23)
  pub three_slots : add_answer octet_meaning (opened 10 200 3) (net 10 1 1 1 32) 1 ≡ Err NoFreeSlot
