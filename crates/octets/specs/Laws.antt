-- What the laws of the octet hierarchy rest on.
use Rattle.std.specs.Prelude.{◌≡◌, ℕ, zero, suc, ◌+◌, ◌-◌, ◌*◌, ◌/◌, ◌%◌, ◌^◌, ◌≤◌, true, false, ◌&&◌, ◌||◌, [], length, take, ◌==◌, nat_lt, refl}
use Rattle.std.proofs.Common.{sym, ap, ◌∙◌, ⊎_elim, length-take, arith}
use Rattle.std.proofs.Math.Nat.{mul-mod_left}
use Rattle.std.proofs.lemmas.Bool.{and_parts, and_from, and_cases, or_cases, cases_Bool, eqb-true, eq-eqb, ltb-true, ltb-false, cond-false}
use Rattle.std.proofs.lemmas.List.{take-take}
use Rattle.std.proofs.lemmas.Nat.{shl-shr, shr-shr, shr_split}
use Rattle.prefix.specs.Name.{parent_name}
use Rattle.prefix.proofs.Names.{parent_is_front}
use Rattle.octets.specs.declared.AddressPrefix.{AddressPrefix}
use Rattle.octets.specs.Octets.{octet_at, octets_of, is_length, bits_after, is_prefix, octet_name, prefix_at, parent_prefix}

-- lengths are whole octets

pub record Whole (n : ℕ) : Type 0 where
  pub count : ℕ
  pub few : count ≤ 4
  pub is : n ≡ 8 * count

is_whole : (n c : ℕ) → c ≤ 4 → (n == 8 * c) ≡ true → Whole n
is_whole n c h e = record { count = c; few = h; is = eqb-true n (8 * c) e }

pub whole : (n : ℕ) → is_length n ≡ true → Whole n
whole n e =
    ⊎_elim (is_whole n 0 (omega arith))
    (λ e1.
    ⊎_elim (is_whole n 1 (omega arith))
    (λ e2.
    ⊎_elim (is_whole n 2 (omega arith))
    (λ e3. ⊎_elim (is_whole n 3 (omega arith)) (is_whole n 4 (omega arith)) (or_cases (n == 24) (n == 32) e3))
    (or_cases (n == 16) (n == 24 || n == 32) e2))
    (or_cases (n == 8) (n == 16 || (n == 24 || n == 32)) e1))
    (or_cases (n == 0) (n == 8 || (n == 16 || (n == 24 || n == 32))) e)

pub whole_length : (c : ℕ) → c ≤ 4 → is_length (8 * c) ≡ true
whole_length zero h = refl
whole_length (suc zero) h = refl
whole_length (suc (suc zero)) h = refl
whole_length (suc (suc (suc zero))) h = refl
whole_length (suc (suc (suc (suc zero)))) h = refl
whole_length (suc (suc (suc (suc (suc c))))) h = absurd (omega arith)

-- the octets of an address whose last bits are cleared

pub cleared_is : (a m : ℕ) → a - a % 2 ^ m ≡ a / 2 ^ m * 2 ^ m
cleared_is a m = omega (arith, shr_split a m)

cleared_shift : (a m e : ℕ) → (a - a % 2 ^ m) / 2 ^ (m + e) ≡ a / 2 ^ (m + e)
cleared_shift a m e =
    rw (← shr-shr (a - a % 2 ^ m) m e, ← shr-shr a m e, cleared_is a m, shl-shr (a / 2 ^ m) m)

cleared_octet : (a m after : ℕ) → m ≤ 8 * after → octet_at (a - a % 2 ^ m) after ≡ octet_at a after
cleared_octet a m after h =
    let e : m + (8 * after - m) ≡ 8 * after = omega arith in
    ap (λ x. x % 256) (rw e at (cleared_shift a m (8 * after - m)))

pub cleared_octets : (count after a m : ℕ) → m + 8 * count ≤ 8 * after → take count (octets_of after (a - a % 2 ^ m)) ≡ take count (octets_of after a)
cleared_octets zero after a m h = refl
cleared_octets (suc count) zero a m h = refl
cleared_octets (suc count) (suc after) a m h =
    let first = cleared_octet a m after (omega arith) in
    let rest = cleared_octets count after a m (omega arith) in cc

-- names

pub octet_count : (after a : ℕ) → length (octets_of after a) ≡ after
octet_count zero a = refl
octet_count (suc after) a = ap suc (octet_count after a)

pub name_length : (count a : ℕ) → count ≤ 4 → length (take count (octets_of 4 a)) ≡ count
name_length count a h = omega (arith, length-take count (octets_of 4 a), octet_count 4 a)

pub valid_parts : (k : AddressPrefix) → is_prefix k ≡ true → (is_length k.length ≡ true) × (bits_after k.address k.length ≡ 0)
valid_parts k e =
    let h = and_parts (is_length k.length) (bits_after k.address k.length == 0) e in
    (h.0, eqb-true (bits_after k.address k.length) 0 h.1)

-- a valid key of so many octets
pub valid_named : (k : AddressPrefix) (c : ℕ) → is_prefix k ≡ true → k.length ≡ 8 * c → octet_name k ≡ take c (octets_of 4 k.address)
valid_named k c e h = rw e (ap (λ n. take n (octets_of 4 k.address)) (omega arith))

pub valid_level : (k : AddressPrefix) → is_prefix k ≡ true → length (octet_name k) ≡ k.length / 8
valid_level k e =
    let w = whole k.length (valid_parts k e).0 in
    ap length (valid_named k w.count e w.is) ∙ name_length w.count k.address w.few ∙ omega (arith, w.is)

pub not_valid_nameless : (k : AddressPrefix) → is_prefix k ≡ false → octet_name k ≡ []
not_valid_nameless k e = cond-false (is_prefix k) (take (k.length / 8) (octets_of 4 k.address)) [] e

pub not_deeper : (k : AddressPrefix) → length (octet_name k) ≤ 4
not_deeper k =
    ⊎_elim
    (λ e.
    let w = whole k.length (valid_parts k e).0 in
    omega (arith, valid_level k e, w.is, w.few))
    (λ e. omega (arith, ap length (not_valid_nameless k e)))
    (cases_Bool (is_prefix k))

-- parents

pub prefix_at_valid : (a c : ℕ) → c ≤ 4 → is_prefix (prefix_at a (8 * c)) ≡ true
prefix_at_valid a c h =
    let m = 32 - 8 * c in
    let none : (a - a % 2 ^ m) % 2 ^ m ≡ 0 = ap (λ x. x % 2 ^ m) (cleared_is a m) ∙ mul-mod_left (a / 2 ^ m) (2 ^ m) in
    and_from (is_length (8 * c)) ((a - a % 2 ^ m) % 2 ^ m == 0) (whole_length c h) (eq-eqb ((a - a % 2 ^ m) % 2 ^ m) 0 none)

-- a key with an octet to drop has one count less above it
record Drops (k : AddressPrefix) : Type 0 where
  pub count : ℕ
  pub few : suc count ≤ 4
  pub is : k.length ≡ 8 * suc count
  pub less : k.length - 8 ≡ 8 * count

drops : (k : AddressPrefix) → is_prefix k ≡ true → nat_lt 0 k.length ≡ true → Drops k
drops k e p =
    let w = whole k.length (valid_parts k e).0 in
    let some = ltb-true 0 k.length p in
    record { count = w.count - 1; few = omega (arith, w.few); is = omega (arith, w.is); less = omega (arith, w.is) }

parent_is_at : (k : AddressPrefix) → is_prefix k ≡ true → nat_lt 0 k.length ≡ true → parent_prefix k ≡ prefix_at k.address (k.length - 8)
parent_is_at k e p = rw (e, p)

parent_is_itself : (k : AddressPrefix) → (is_prefix k && nat_lt 0 k.length) ≡ false → parent_prefix k ≡ k
parent_is_itself k e = cond-false (is_prefix k && nat_lt 0 k.length) (prefix_at k.address (k.length - 8)) k e

pub parent_valid : (k : AddressPrefix) → is_prefix k ≡ true → is_prefix (parent_prefix k) ≡ true
parent_valid k e =
    ⊎_elim
    (λ h.
    let p = (and_parts (is_prefix k) (nat_lt 0 k.length) h).1 in
    let d = drops k e p in
    ap is_prefix (parent_is_at k e p ∙ ap (prefix_at k.address) d.less) ∙ prefix_at_valid k.address d.count (omega (arith, d.few)))
    (λ h. ap is_prefix (parent_is_itself k h) ∙ e)
    (cases_Bool (is_prefix k && nat_lt 0 k.length))

nameless : (k : AddressPrefix) → (is_prefix k && nat_lt 0 k.length) ≡ false → octet_name k ≡ []
nameless k h =
    ⊎_elim
    (λ e. not_valid_nameless k e)
    (λ p. ⊎_elim (λ e. valid_named k 0 e (omega (arith, ltb-false 0 k.length p))) (not_valid_nameless k) (cases_Bool (is_prefix k)))
    (and_cases (is_prefix k) (nat_lt 0 k.length) h)

pub parent_named : (k : AddressPrefix) → octet_name (parent_prefix k) ≡ parent_name (octet_name k)
parent_named k =
    ⊎_elim
    (λ h.
    let both = and_parts (is_prefix k) (nat_lt 0 k.length) h in
    let d = drops k both.0 both.1 in
    let c = d.count in
    let a = k.address in
    let up = prefix_at a (8 * c) in
    let is_up = parent_is_at k both.0 both.1 ∙ ap (prefix_at a) d.less in
    let valid = prefix_at_valid a c (omega (arith, d.few)) in
    let name = valid_named k (suc c) both.0 d.is in
    let shorter : length (take (suc c) (octets_of 4 a)) - 1 ≡ c = omega (arith, name_length (suc c) a d.few) in
    let front : parent_name (take (suc c) (octets_of 4 a)) ≡ take c (octets_of 4 a) =
    parent_is_front (take (suc c) (octets_of 4 a)) ∙ ap (λ n. take n (take (suc c) (octets_of 4 a))) shorter ∙ take-take c (suc c) (octets_of 4 a) (omega arith) in
    ap octet_name is_up ∙ valid_named up c valid refl ∙ cleared_octets c 4 a (32 - 8 * c) (omega (arith, d.few)) ∙ sym front ∙ ap parent_name (sym name))
    (λ h.
    let none = nameless k h in
    ap octet_name (parent_is_itself k h) ∙ none ∙ ap parent_name (sym none))
    (cases_Bool (is_prefix k && nat_lt 0 k.length))
