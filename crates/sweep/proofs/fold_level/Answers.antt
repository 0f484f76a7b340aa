use Rattle.std.proofs.Common.{◌+◌, ◌<◌, ◌++◌, length, drop, set, inl, inr, arith}
use Rattle.model.proofs.Handing.{tree_of}
use Rattle.sweep.proofs.Walk.{Stays, Goes, Next, steps_read, walk_at, walk_stays, walk_goes, walk_ends}
use Rattle.sweep.proofs.fold_level.Goals as goal
use Rattle.sweep.proofs.fold_level.Goals.{then-depth-level+then-load-error+then-not-is_deeper, else-depth-level, else-depth-level-via-then-depth-level+then-load-error+else-not-is_deeper, else-depth-level-via-then-depth-level+else-load-error, else-depth-level-via-else-depth-level, then-depth-above, else-depth-above}

pub loop-i-preserved : goal.loop-i-preserved
loop-i-preserved g c =
    let m = g.H.Hierarchy.means c.args.hierarchy.now in
    let e = c.args.error in
    let level = c.args.level in
    let start = tree_of c.args.root c.args.nodes.now in
    let l = c.loop-i in
    let t = c.if-depth-level in
    let n = c.index-nodes-i-in-loop-i.result in
    let depth = c.level-depth.result in
    let load = c.saturating_add-load.result in
    let ahead = drop (l.i + 1) l.nodes in
    let within : l.i < length l.nodes = omega arith in
    let here = c.index-nodes-i-in-loop-i.is in
    let steps =
    steps_read m l.nodes l.i n c.index-nodes-i.result depth within here c.level-depth.ensures in
    elim c.if-depth-level.branch [
      | then-depth-level+then-load-error+then-not-is_deeper w ↦
          let u = w.hand_up-root in
          let why : Goes m e level depth load ahead =
          record {
            at_level = w.if-depth-level.true;
            light = w.if-load-error.true;
            bare = w.if-not-is_deeper.ensures;
          } in
          walk_at m e level start (l.i + 1) l.kept t.kept l.parent t.parent u.result t.root (u.new.kept ++ drop l.kept l.nodes) t.nodes w.kept-is w.parent-is w.root-is w.nodes-is
          (walk_goes m e level start l.i l.kept l.parent l.root l.nodes l.invariant within n here depth load steps c.saturating_add-load.ensures u.result u.new.kept c.requires why u.ensures)
      | else-depth-level w ↦
          let p = w.if-depth-above.parent in
          let why : Stays m e level depth load ahead =
          elim w.else-depth-level.branch [
            | else-depth-level-via-then-depth-level+then-load-error+else-not-is_deeper v ↦ inr (inr v.if-not-is_deeper.ensures)
            | else-depth-level-via-then-depth-level+else-load-error v ↦ inr (inl v.if-load-error.false)
            | else-depth-level-via-else-depth-level v ↦ inl v.if-depth-level.false
          ] in
          let next : Next level depth l.kept l.parent p =
          elim w.if-depth-above.branch [
            | then-depth-above v ↦ inl (v.if-depth-above.true, v.parent-is)
            | else-depth-above v ↦ inr (v.if-depth-above.false, v.parent-is)
          ] in
          walk_at m e level start (l.i + 1) (l.kept + 1) t.kept p t.parent l.root t.root (set l.nodes l.kept n) t.nodes w.kept-is w.parent-is w.root-is w.nodes-is
          (walk_stays m e level start l.i l.kept l.parent l.root l.nodes l.invariant within n here depth load steps c.saturating_add-load.ensures p why next)
    ]

pub returns : goal.returns
returns g c =
    record {
      within = omega (arith, c.loop-i.invariant.behind);
      value =
          walk_ends (g.H.Hierarchy.means c.args.hierarchy.now) c.args.error c.args.level (tree_of c.args.root c.args.nodes.now) c.loop-i.i c.loop-i.kept c.loop-i.parent c.loop-i.root c.loop-i.nodes c.loop-i.invariant (omega arith);
    }
