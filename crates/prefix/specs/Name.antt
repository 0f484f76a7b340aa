-- Names of prefixes: a name is a list of steps, a step is a list of bytes.
use Rattle.std.specs.Prelude.{ℕ, Bool, cond, not, ◌&&◌, List, [], ◌∷◌, nat_eq, nat_lt}
use Rattle.std.specs.declared.cmp.Ordering.TheVariants.{Less, Equal, Greater}
use Rattle.std.specs.declared.cmp.Ordering.{Ordering}
use Rattle.prefix.specs.Order.{same_by, front_by, before_by}

abbrev pub Step : Type 0
Step = List ℕ

abbrev pub Name : Type 0
Name = List Step

abbrev pub same_step : Step → Step → Bool
same_step = same_by nat_eq

abbrev pub same_name : Name → Name → Bool
same_name = same_by same_step

-- byte by byte, unsigned; a proper front part comes first
abbrev pub step_before : Step → Step → Bool
step_before = before_by nat_eq nat_lt

-- step by step; a proper front part comes first
abbrev pub name_before : Name → Name → Bool
name_before = before_by same_step step_before

-- which of two names comes first
abbrev pub order_of : Name → Name → Ordering
order_of p q = cond (name_before p q) Less (cond (same_name p q) Equal Greater)

-- the second name lies at or beneath the first: the first is a front part of it, or the same
abbrev pub covers : Name → Name → Bool
covers = front_by same_step

-- the second name lies beneath the first: the first is a proper front part of it
abbrev pub above : Name → Name → Bool
above p q = covers p q && not (same_name p q)

-- the name without its last step; an empty name stays empty
abbrev pub parent_name : Name → Name
parent_name [] = []
parent_name (s ∷ []) = []
parent_name (s ∷ (t ∷ q)) = s ∷ parent_name (t ∷ q)
