use Rattle.std.proofs.Common.{◌≡◌, ◌+◌, ◌<◌, ◌≤◌, true, refl, ap, subst, rules}
use Rattle.model.specs.State.{State, state_tree, largest_total}
use Rattle.model.specs.Summary.{counted}
use Rattle.model.specs.Sound.{Sound}
use Rattle.table.specs.Ancestors.{Ancestors}
use Rattle.summary.proofs.Steps.{add_key_refused, add_without_weight, add_total_refused, add_slot_refused, add_counted}
use Rattle.summary.proofs.counting.Summary.add.Goals as goal

pub returns-then-not-is_valid-clause-defined : goal.returns-then-not-is_valid-clause-defined
returns-then-not-is_valid-clause-defined g c =
    let m = g.H.Hierarchy.means c.args.hierarchy.now in
    add_key_refused m c.args.self.now c.args.key c.args.weight _ refl (search rules)

pub returns-then-weight-eq0-clause-defined : goal.returns-then-weight-eq0-clause-defined
returns-then-weight-eq0-clause-defined g c =
    let m = g.H.Hierarchy.means c.args.hierarchy.now in
    add_without_weight m c.args.self.now c.args.key c.args.weight _ refl c.self.inside.total (ap (λ (t : State _). t.total) c.self.view_is) (search rules) (search rules)

pub returns-then-total-gt-LARGEST_TOTAL-clause-defined : goal.returns-then-total-gt-LARGEST_TOTAL-clause-defined
returns-then-total-gt-LARGEST_TOTAL-clause-defined g c =
    let m = g.H.Hierarchy.means c.args.hierarchy.now in
    add_total_refused m c.args.self.now c.args.key c.args.weight _ refl (search rules) (search rules) (search rules)

pub returns-in_default-clause-defined : goal.returns-in_default-clause-defined
returns-in_default-clause-defined g c =
    let m = g.H.Hierarchy.means c.args.hierarchy.now in
    add_slot_refused m c.args.self.now c.args.key c.args.weight (search rules) (search rules) (search rules) _ c.in_default.ensures.defined

pub returns-clause-defined : goal.returns-clause-defined
returns-clause-defined g c =
    let m = g.H.Hierarchy.means c.args.hierarchy.now in
    let mid = c.find_room.new.self in
    let counts = subst (λ w. Sound m mid → Ancestors m mid.nodes c.args.key (state_tree mid).root c.in-Some.ancestry → m.is_valid c.args.key ≡ true → 0 < w → c.saturating_add-total.result ≡ mid.total + w → c.saturating_add-total.result ≤ largest_total → c.count.new.self ≡ counted m mid c.args.key w) c.from-weight.ensures c.count.ensures.defined in
    add_counted m c.args.self.now c.args.key c.args.weight (search rules) (search rules) (search rules) mid c.in-Some.ancestry c.count.new.self _ c.saturating_add-total.result c.error-error.result (search rules) c.error-error.ensures c.in-Some.ensures.defined counts c.settle.ensures.defined
