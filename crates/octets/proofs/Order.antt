-- Two valid keys come in the order of their addresses, and have one name only where they are equal.
use Rattle.std.proofs.Common.{◌≡◌, ℕ, zero, suc, ◌+◌, ◌-◌, ◌*◌, ◌%◌, ◌^◌, ◌<◌, ◌≤◌, Bool, true, false, ◌&&◌, ◌||◌, eqb, ltb, take, Decides, sym, refl, ap, ◌∙◌, mod-eq_of_lt, add-mul, one-mul, arith}
use Rattle.std.proofs.lemmas.Bool.Decides.{nat_tests, same_from_decides}
use Rattle.std.proofs.lemmas.Nat.{pow_pos, mod-pow-add, mod_below, mul-le}
use Rattle.prefix.specs.Name.{Name, same_name, name_before}
use Rattle.prefix.proofs.Names.{name_order}
use Rattle.octets.specs.declared.AddressPrefix.{AddressPrefix}
use Rattle.octets.specs.Octets.{octet_at, octets_of, is_prefix, octet_name, address_before}
use Rattle.octets.specs.Laws.{whole, valid_parts, valid_named}

-- two keys apart, with any numbers for their addresses and lengths
number_before : ℕ → ℕ → ℕ → ℕ → Bool
number_before a p b q = address_before (record { address = a; length = p }) (record { address = b; length = q })

-- the same in front of both
after_same : (c a b p q : ℕ) → number_before (c + a) (suc p) (c + b) (suc q) ≡ number_before a p b q
unfolding number_before
after_same c a b p q = grind (arith, nat_tests)

lower_row : (m x y a b : ℕ) → x < y → a < m → x * m + a < y * m + b
lower_row m x y a b h ha = omega (arith, mul-le (suc x) m y m h (omega arith), add-mul 1 x m, one-mul m)

-- one octet more in front of two numbers below m
octet_first : (m x y a b p q : ℕ) (rest : Bool) → a < m → b < m → rest ≡ number_before a p b q → ((ltb x y || (eqb x y && false)) || ((eqb x y && true) && rest)) ≡ number_before (x * m + a) (suc p) (y * m + b) (suc q)
unfolding number_before
octet_first m x y a b p q rest ha hb e =
    grind (arith, nat_tests, lower_row m x y a b, lower_row m y x b a)

-- no octets come before some
none_first : (b q : ℕ) → number_before 0 0 b (suc q) ≡ true
unfolding number_before
none_first b q = grind (arith, nat_tests)

none_last : (a p : ℕ) → number_before a (suc p) 0 0 ≡ false
unfolding number_before
none_last a p = grind (arith, nat_tests)

-- zeros after so many bits, counted in another way
zeros_at : (a m n : ℕ) → m ≡ n → a % 2 ^ n ≡ 0 → a % 2 ^ m ≡ 0
zeros_at a m n e z = ap (λ k. a % 2 ^ k) e ∙ z

first_octet : (w a : ℕ) → a % 2 ^ (8 * suc w) ≡ octet_at a w * 2 ^ (8 * w) + a % 2 ^ (8 * w)
first_octet w a = ap (λ n. a % 2 ^ n) (omega arith) ∙ mod-pow-add a 8 (8 * w)

-- The first p octets of a and the first q of b, where what is after them is zero: their order is that of the numbers
-- that the last w octets make.
octets_order : (w a b p q : ℕ) → p ≤ w → q ≤ w → a % 2 ^ (8 * (w - p)) ≡ 0 → b % 2 ^ (8 * (w - q)) ≡ 0 → name_before (take p (octets_of w a)) (take q (octets_of w b)) ≡ number_before (a % 2 ^ (8 * w)) p (b % 2 ^ (8 * w)) q
unfolding number_before
octets_order w a b zero zero hp hq ea eb =
    let za = zeros_at a (8 * w) (8 * (w - 0)) (omega arith) ea in
    let zb = zeros_at b (8 * w) (8 * (w - 0)) (omega arith) eb in
    rw (za, zb)
octets_order zero a b zero (suc q) hp hq ea eb = absurd (omega arith)
octets_order (suc w) a b zero (suc q) hp hq ea eb =
    rw (zeros_at a (8 * suc w) (8 * (suc w - 0)) (omega arith) ea) (sym (none_first (b % 2 ^ (8 * suc w)) q))
octets_order zero a b (suc p) q hp hq ea eb = absurd (omega arith)
octets_order (suc w) a b (suc p) zero hp hq ea eb =
    rw (zeros_at b (8 * suc w) (8 * (suc w - 0)) (omega arith) eb) (sym (none_last (a % 2 ^ (8 * suc w)) p))
octets_order (suc w) a b (suc p) (suc q) hp hq ea eb =
    let m = 2 ^ (8 * w) in
    let za = zeros_at a (8 * (w - p)) (8 * (suc w - suc p)) (omega arith) ea in
    let zb = zeros_at b (8 * (w - q)) (8 * (suc w - suc q)) (omega arith) eb in
    let rest = octets_order w a b p q (omega arith) (omega arith) za zb in
    let first = octet_first m (octet_at a w) (octet_at b w) (a % m) (b % m) p q _ (mod_below a m (pow_pos (8 * w))) (mod_below b m (pow_pos (8 * w))) rest in
    rw (first_octet w a, first_octet w b) first

-- Valid keys

in_octets : (a b p q m n : ℕ) → m ≡ 8 * p → n ≡ 8 * q → number_before a p b q ≡ number_before a m b n
unfolding number_before
in_octets a b p q m n e f = grind (arith, nat_tests)

pub prefix_order : (k l : AddressPrefix) (r : Bool) → k.address < 2 ^ 32 → l.address < 2 ^ 32 → r ≡ address_before k l → is_prefix k ≡ true → is_prefix l ≡ true → r ≡ name_before (octet_name k) (octet_name l)
unfolding number_before
prefix_order k l r small low e valid other =
    let h = valid_parts k valid in
    let g = valid_parts l other in
    let p = whole k.length h.0 in
    let q = whole l.length g.0 in
    let name = valid_named k p.count valid p.is in
    let last = valid_named l q.count other q.is in
    let zeros = zeros_at k.address (8 * (4 - p.count)) (32 - k.length) (omega (arith, p.is)) h.1 in
    let nones = zeros_at l.address (8 * (4 - q.count)) (32 - l.length) (omega (arith, q.is)) g.1 in
    let ordered = octets_order 4 k.address l.address p.count q.count p.few q.few zeros nones in
    let octets = in_octets k.address l.address p.count q.count k.length l.length p.is q.is in
    cc (mod-eq_of_lt small, mod-eq_of_lt low)

-- neither comes before the other
level_numbers : (a b m n : ℕ) → number_before a m b n ≡ false → number_before b n a m ≡ false → (a ≡ b) × (m ≡ n)
unfolding number_before
level_numbers a b m n e f = (grind (arith, nat_tests), grind (arith, nat_tests))

equal_keys : (a b m n : ℕ) → a ≡ b → m ≡ n → ◌≡◌ {A = AddressPrefix} (record { address = a; length = m }) (record { address = b; length = n })
equal_keys a b m n e f = cc

named_apart : (k l : AddressPrefix) → k.address < 2 ^ 32 → l.address < 2 ^ 32 → is_prefix k ≡ true → is_prefix l ≡ true → octet_name k ≡ octet_name l → k ≡ l
unfolding number_before
named_apart k l small low valid other e =
    let none = name_order.irreflexive (octet_name l) in
    let one : address_before k l ≡ false = prefix_order k l (address_before k l) small low refl valid other ∙ ap (λ (x : Name). name_before x (octet_name l)) e ∙ none in
    let two : address_before l k ≡ false = prefix_order l k (address_before l k) low small refl other valid ∙ ap (name_before (octet_name l)) e ∙ none in
    let both = level_numbers k.address l.address k.length l.length one two in
    equal_keys k.address l.address k.length l.length both.0 both.1

-- what `==` on keys tells
equals_decides : (k l : AddressPrefix) (r : Bool) → r ≡ (eqb k.address l.address && eqb k.length l.length) → Decides r (k ≡ l)
equals_decides k l r e = grind (arith, nat_tests)

pub same_prefix : (k l : AddressPrefix) (r : Bool) → k.address < 2 ^ 32 → l.address < 2 ^ 32 → r ≡ (eqb k.address l.address && eqb k.length l.length) → is_prefix k ≡ true → is_prefix l ≡ true → r ≡ same_name (octet_name k) (octet_name l)
same_prefix k l r small low h valid other =
    same_from_decides r (same_name (octet_name k) (octet_name l)) (equals_decides k l r h) (
      (λ s. named_apart k l small low valid other ((name_order.same_is_equal (octet_name k) (octet_name l)).0 s)),
      (λ s. (name_order.same_is_equal (octet_name k) (octet_name l)).1 (ap octet_name s)),
    )
