-- A table in name order: where a name stands in it, which run of it lies beneath a prefix, and the nodes that an add
-- makes in it.
use Rattle.std.specs.Prelude.{ℕ, zero, suc, List, [], ◌∷◌, ◌++◌, length, take, sum_by, nat_lt}
use Rattle.std.specs.List.{prefix_len}
use Rattle.prefix.specs.Name.{Name, name_before}
use Rattle.prefix.specs.Meaning.{Meaning}
use Rattle.model.specs.declared.Node.{Node}
use Rattle.model.specs.Summary.{fresh, names_of}

-- how many names come before p, in a list in order
abbrev pub count_before : List Name → Name → ℕ
count_before qs p = prefix_len (λ q. name_before q p) qs

-- how many names at the front have more than l steps: in the list after a prefix of l steps, the names beneath it
abbrev pub run_of : ℕ → List Name → ℕ
run_of l qs = prefix_len (λ q. nat_lt l (length q)) qs

abbrev pub own_sum : {K : Type 0} → List (Node K) → ℕ
own_sum ns = sum_by (λ n. n.own) ns

-- the own counts of that run
abbrev pub run_count : {K : Type 0} → Meaning K → ℕ → List (Node K) → ℕ
run_count m l ns = own_sum (take (run_of l (names_of m ns)) ns)

-- made nodes for a key and its next ancestors, j in all, the topmost first
abbrev pub lineage : {K : Type 0} → Meaning K → K → ℕ → ℕ → List (Node K)
lineage m k c zero = []
lineage m k c (suc j) = lineage m (m.parent_of k) c j ++ (fresh k c ∷ [])
