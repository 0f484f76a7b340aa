use Rattle.std.proofs.Common.{◌+◌, ◌≤◌, take, sym, refl, ap, ◌∙◌, subst, rules}
use Rattle.model.specs.State.{State, state_tree, largest_total}
use Rattle.model.specs.Summary.{fresh}
use Rattle.summary.proofs.Counted.{made_from, counted_in_slot, counted_at_root}
use Rattle.summary.proofs.counting.Summary.count.Goals as goal

pub returns-in-Some-clause-defined : goal.returns-in-Some-clause-defined
returns-in-Some-clause-defined g c =
    let m = g.H.Hierarchy.means c.args.hierarchy.now in
    let s = c.args.self.now in
    let i = c.self.inside in
    let used = i.used + c.args.ancestry.missing in
    λ sound known valid some sum small.
    counted_in_slot m s c.args.key c.args.ancestry sound known c.requires c.args.weight valid some (subst (λ n. n ≤ largest_total) sum small) c.in-Some.at (fresh c.args.key 0) (sym c.own_slot.ensures ∙ c.in-Some.is) _ used c.insert_in.new.nodes c.raise_own.new.nodes (search rules) sum (ap (λ (t : State _). (state_tree t).root) c.self.view_is) refl
    (made_from m s c.args.key c.args.ancestry sound known c.requires (take i.used i.nodes.now) (take used c.insert_in.new.nodes) (ap (λ (t : State _). t.nodes) c.self.view_is) c.insert_in.ensures)
    (c.raise_own.ensures (fresh c.args.key 0))

pub returns-in-None-clause-defined : goal.returns-in-None-clause-defined
returns-in-None-clause-defined g c =
    let m = g.H.Hierarchy.means c.args.hierarchy.now in
    let s = c.args.self.now in
    let i = c.self.inside in
    λ sound known valid some sum small.
    counted_at_root m s c.args.key c.args.ancestry sound known c.requires c.args.weight valid some (subst (λ n. n ≤ largest_total) sum small) _ (search rules) sum (sym c.own_slot.ensures ∙ c.in-None.is) (search rules)
    (made_from m s c.args.key c.args.ancestry sound known c.requires (take i.used i.nodes.now) _ (ap (λ (t : State _). t.nodes) c.self.view_is) c.insert_in.ensures)
