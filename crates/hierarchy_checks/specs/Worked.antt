-- Names worked out by hand: the definitions compute to them.
use Rattle.std.specs.Prelude.{◌≡◌, ℕ, true, false, List, [], ◌∷◌, codes}
use Rattle.prefix.specs.Name.{Step, name_before}
use Rattle.octets.specs.Octets.{is_prefix, octet_name, parent_prefix, net, prefix_text}
use Rattle.paths.specs.declared.Place.{Place}
use Rattle.paths.specs.Hierarchy.{is_path, path_name, parent_place}

abbrev place : ℕ → ℕ → Place
place offset n = record { offset = offset; length = n }

-- an octet as a step
abbrev octet : ℕ → Step
octet b = b ∷ []

pub record WorkedOctets : Type 0 where
  pub root : octet_name (net 0 0 0 0 0) ≡ []
  pub site : octet_name (net 10 1 0 0 16) ≡ octet 10 ∷ (octet 1 ∷ [])
  pub host : octet_name (net 10 1 2 3 32) ≡ octet 10 ∷ (octet 1 ∷ (octet 2 ∷ (octet 3 ∷ [])))
  pub bit_after : is_prefix (net 10 1 0 1 16) ≡ false
  pub no_such_length : is_prefix (net 10 0 0 0 12) ≡ false
  pub parent : parent_prefix (net 10 1 2 3 32) ≡ net 10 1 2 0 24
  pub text : prefix_text (net 10 1 0 0 16) ≡ codes "10.1.0.0/16"

-- the text of the path cases
abbrev log : List ℕ
log = codes "/a/b/a!/ab"

pub record WorkedPaths : Type 0 where
  pub one : path_name log (place 0 2) ≡ codes "a" ∷ []
  pub two : path_name log (place 0 4) ≡ codes "a" ∷ (codes "b" ∷ [])
  pub longer : path_name log (place 7 3) ≡ codes "ab" ∷ []
  pub trailing_slash : is_path log (place 0 3) ≡ false
  pub past_the_end : is_path log (place 7 4) ≡ false
  pub parent : parent_place log (place 0 4) ≡ place 0 2
  pub beneath_first : name_before (path_name log (place 0 4)) (path_name log (place 4 3)) ≡ true
  pub shorter_first : name_before (path_name log (place 4 3)) (path_name log (place 7 3)) ≡ true
