-- Weighted names: the own counts of a tree are a list of them.
use Rattle.std.specs.Prelude.{ℕ, cond, List, sum_by}
use Rattle.prefix.specs.Name.{Name, covers}

pub record Weighted : Type 0 where
  pub name : Name
  pub weight : ℕ

abbrev pub total_of : List Weighted → ℕ
total_of xs = sum_by (λ x. x.weight) xs

-- the weight at or beneath p
abbrev pub under : List Weighted → Name → ℕ
under xs p = sum_by (λ x. cond (covers p x.name) x.weight 0) xs
