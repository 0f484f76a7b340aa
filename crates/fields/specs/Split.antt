-- A list split around the first of a byte.
use Rattle.std.specs.Prelude.{ℕ, cond, List, [], ◌∷◌, Some, None, Option, ◌==◌}
use Rattle.std.specs.Option.{option_map}

-- the bytes before the first such byte, and those behind it; none where it does not stand
abbrev pub split : ℕ → List ℕ → Option (List ℕ × List ℕ)
split byte [] = None
split byte (b ∷ bs) = cond (b == byte) (Some ([], bs)) (option_map (λ p. (b ∷ p.0, p.1)) (split byte bs))
