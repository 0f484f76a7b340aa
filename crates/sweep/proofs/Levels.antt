-- Level after level, from the deepest.
use Rattle.std.proofs.Common.{◌≡◌, ℕ, suc, ◌-◌, ◌<◌, ◌≤◌, List, [], ◌++◌, length, take, sym, ap, ◌∙◌, subst, arith}
use Rattle.std.proofs.lemmas.List.{length-append, take-append-le}
use Rattle.prefix.specs.Meaning.{Meaning}
use Rattle.model.specs.declared.Node.{Node}
use Rattle.model.specs.declared.Root.{Root}
use Rattle.model.specs.State.{Tree, largest_total}
use Rattle.model.specs.Summary.{folded_among, folded_from, swept_tree}
use Rattle.model.specs.Sound.{SoundTree}
use Rattle.model.proofs.Handing.{tree_of}
use Rattle.model.proofs.Folding.{level_sound}

-- with so many levels still to fold: the tree is sound, and folding them makes what a sweep makes of the start
pub record Left {K : Type 0} (m : Meaning K) (e : ℕ) (start : Tree K) (levels total : ℕ) (t : Tree K) : Type 0 where
  pub sound : SoundTree m total e t
  pub makes : folded_from m e levels t ≡ swept_tree m e start

pub record Levels {K : Type 0} (m : Meaning K) (e : ℕ) (start : Tree K) (levels kept : ℕ) (r : Root) (nodes : List (Node K)) : Type 0 where
  pub within : kept ≤ length nodes
  pub left : (total : ℕ) → SoundTree m total e start → e ≤ largest_total → Left m e start levels total (tree_of r (take kept nodes))

-- folding a level of one tree makes the other
abbrev pub Folds : {K : Type 0} → Meaning K → ℕ → ℕ → Root → List (Node K) → Root → List (Node K) → Type 0
Folds m e level r ns r' ns' =
    (total : ℕ) → SoundTree m total e (tree_of r ns) → e ≤ largest_total → tree_of r' ns' ≡ folded_among m e level ns (tree_of r ns)

module _ {K : Type 0} (m : Meaning K) (e : ℕ) (start : Tree K) where
  pub levels_more : (levels kept level kept' : ℕ) (r r' : Root) (nodes part back : List (Node K)) → 0 < levels → level ≡ levels → kept' ≤ length part → Folds m e level r (take kept nodes) r' (take kept' part) → Levels m e start levels kept r nodes → Levels m e start (levels - 1) kept' r' (part ++ back)
  levels_more levels kept level kept' r r' nodes part back some here fits folds w =
      let t : Tree K = tree_of r (take kept nodes) in
      let up : levels ≡ suc (levels - 1) = omega arith in
      let front = take-append-le kept' part back fits in
      let folds' = subst (λ k. Folds m e k r (take kept nodes) r' (take kept' part)) (here ∙ up) folds in
      record {
        within = omega (arith, length-append part back);
        left = λ total s small.
            let h = w.left total s small in
            let same : tree_of r' (take kept' (part ++ back)) ≡ folded_among m e (suc (levels - 1)) (take kept nodes) t =
            ap (tree_of r') front ∙ folds' total h.sound small in
            record {
              sound = subst (SoundTree m total e) (sym same) (level_sound m total e (suc (levels - 1)) r [] (take kept nodes) h.sound);
              makes = ap (folded_from m e (levels - 1)) same ∙ ap (λ k. folded_from m e k t) (sym up) ∙ h.makes;
            };
      }
