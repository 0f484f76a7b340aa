-- What a mask of the address bits after a length tells.
use Rattle.std.proofs.Common.{◌≡◌, ℕ, ◌-◌, ◌^◌, true, cond, ◌&&◌, eqb, Some, None, Option, sym, ap, ◌∙◌}
use lib.Bits.{bit_and}
use Rattle.std.proofs.lemmas.Option.{cond_some}
use Rattle.std.proofs.lemmas.Nat.{and_mask}
use Rattle.octets.specs.declared.AddressPrefix.{AddressPrefix}
use Rattle.octets.specs.Octets.{is_length, bits_after, is_prefix}

-- the bits after a length, as a mask
abbrev mask_of : ℕ → Option ℕ
mask_of n = cond (is_length n) (Some (2 ^ (32 - n) - 1)) None

mask_is : (n bits : ℕ) → Some bits ≡ mask_of n → (is_length n ≡ true) × (bits ≡ 2 ^ (32 - n) - 1)
mask_is n bits e =
    let h = cond_some (is_length n) (2 ^ (32 - n) - 1) bits (sym e) in
    (h.0, sym h.1)

pub masked_valid : (k : AddressPrefix) (bits : ℕ) → Some bits ≡ mask_of k.length → eqb (bit_and k.address bits) 0 ≡ is_prefix k
masked_valid k bits e =
    let a = k.address in
    let n = k.length in
    let mask = mask_is n bits e in
    ap (λ b. eqb (bit_and a b) 0) mask.1 ∙ ap (λ x. eqb x 0) (and_mask a (32 - n)) ∙ ap (λ b. b && eqb (bits_after a n) 0) (sym mask.0)
