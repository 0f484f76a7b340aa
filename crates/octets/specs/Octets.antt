-- Address prefixes by whole octets: which keys are valid, what they are called, and how they are written.
use Rattle.std.specs.Prelude.{ℕ, zero, suc, ◌+◌, ◌-◌, ◌*◌, ◌/◌, ◌%◌, ◌^◌, Bool, cond, ◌&&◌, ◌||◌, List, [], ◌∷◌, ◌++◌, take, codes, decimal, ◌==◌, nat_lt}
use Rattle.prefix.specs.Name.{Name}
use Rattle.octets.specs.declared.AddressPrefix.{AddressPrefix}

-- the octet of an address that has so many octets after it
abbrev pub octet_at : ℕ → ℕ → ℕ
octet_at address after = address / 2 ^ (8 * after) % 256

-- the last so many octets of an address, the highest first, each a step of one byte
abbrev pub octets_of : ℕ → ℕ → Name
octets_of zero address = []
octets_of (suc after) address = (octet_at address after ∷ []) ∷ octets_of after address

abbrev pub is_length : ℕ → Bool
is_length n = n == 0 || (n == 8 || (n == 16 || (n == 24 || n == 32)))

-- the number that the address bits after a length make
abbrev pub bits_after : ℕ → ℕ → ℕ
bits_after address n = address % 2 ^ (32 - n)

-- the length is one that a key may have, and all address bits after it are zero
abbrev pub is_prefix : AddressPrefix → Bool
is_prefix k = is_length k.length && bits_after k.address k.length == 0

-- the first length / 8 of the four octets; a key that is not valid is nameless
abbrev pub octet_name : AddressPrefix → Name
octet_name k = cond (is_prefix k) (take (k.length / 8) (octets_of 4 k.address)) []

-- by address, and the shorter first at one address: of valid keys, the order of names
abbrev pub address_before : AddressPrefix → AddressPrefix → Bool
address_before k l = nat_lt k.address l.address || (k.address == l.address && nat_lt k.length l.length)

abbrev pub root_prefix : AddressPrefix
root_prefix = record { address = 0; length = 0 }

-- the address bits after the length are cleared
abbrev pub prefix_at : ℕ → ℕ → AddressPrefix
prefix_at address n = record { address = address - bits_after address n; length = n }

-- one octet less; the root and a key that is not valid are their own parents
abbrev pub parent_prefix : AddressPrefix → AddressPrefix
parent_prefix k = cond (is_prefix k && nat_lt 0 k.length) (prefix_at k.address (k.length - 8)) k

abbrev pub host_prefix : ℕ → AddressPrefix
host_prefix address = record { address = address; length = 32 }

-- a.b.c.d/n, as keys are written
abbrev pub net : ℕ → ℕ → ℕ → ℕ → ℕ → AddressPrefix
net a b c d n = record { address = ((a * 256 + b) * 256 + c) * 256 + d; length = n }

-- the four octets of the address in decimal with dots between, '/', and the length in decimal
abbrev pub prefix_text : AddressPrefix → List ℕ
prefix_text k =
    decimal (octet_at k.address 3) ++ (codes "." ++ (decimal (octet_at k.address 2) ++ (codes "." ++ (decimal (octet_at k.address 1)
    ++ (codes "." ++ (decimal (octet_at k.address 0) ++ (codes "/" ++ decimal k.length)))))))
