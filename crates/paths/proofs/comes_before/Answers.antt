use Rattle.std.proofs.Common.{◌≡◌, ltb, length, ◌∙◌, sym, ap, subst, rules, tests}
use Rattle.std.specs.Option.{option_map}
use Rattle.std.specs.List.{find, zip}
use Rattle.std.proofs.lemmas.Iterator.{YieldsList-from_slice, YieldsList-from_zip}
use Rattle.std.proofs.lemmas.Iterator.Consumers.{YieldsList-at}
use Rattle.std.proofs.lemmas.Iterator.Search.{find_from_yields_List}
use Rattle.paths.specs.Path.{ranked_before}
use Rattle.paths.proofs.Order.{differs, Decided, first_decides}
use Rattle.paths.proofs.Names.{part_order}
use Rattle.paths.proofs.comes_before.Goals as goal

pub returns-in-Some : goal.returns-in-Some
returns-in-Some c =
    let one = c.args.one.now in
    let other = c.args.other.now in
    let found : option_map (λ p. (p.0.now, p.1.now)) c.find-differing.result ≡ find differs (zip one other) =
    find_from_yields_List differs c.find-differing.new.self _ c.find-differing.result c.find-differing.ensures.ran
    (YieldsList-from_zip (YieldsList-at c.zip.ensures.first (YieldsList-from_slice one cc)) (YieldsList-from_slice other c.zip.ensures.second.0))
    (λ x b q k. search (rules, tests)) in
    let first = subst (Decided one other) (sym found ∙ ap (option_map (λ p. (p.0.now, p.1.now))) c.in-Some.is) (first_decides one other) in
    let decided : ltb c.rank.result c.rank-in-Some.result ≡ ranked_before one other = rw (c.rank.ensures, c.rank-in-Some.ensures) first in
    record { ranked = decided; named = λ p q. decided ∙ part_order one other p q }

pub returns-in-None : goal.returns-in-None
returns-in-None c =
    let one = c.args.one.now in
    let other = c.args.other.now in
    let found : option_map (λ p. (p.0.now, p.1.now)) c.find-differing.result ≡ find differs (zip one other) =
    find_from_yields_List differs c.find-differing.new.self _ c.find-differing.result c.find-differing.ensures.ran
    (YieldsList-from_zip (YieldsList-at c.zip.ensures.first (YieldsList-from_slice one cc)) (YieldsList-from_slice other c.zip.ensures.second.0))
    (λ x b q k. search (rules, tests)) in
    let decided : ltb (length one) (length other) ≡ ranked_before one other =
    subst (Decided one other) (sym found ∙ ap (option_map (λ p. (p.0.now, p.1.now))) c.in-None.is) (first_decides one other) in
    record { ranked = decided; named = λ p q. decided ∙ part_order one other p q }
