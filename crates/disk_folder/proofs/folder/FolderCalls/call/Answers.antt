use Rattle.std.proofs.Common.{ℕ, ◌≡◌, Bool, false, ◌||◌, ap, sym, subst, ◌∙◌}
use Rattle.std.proofs.lemmas.Bool.{or_parts}
use Rattle.backing.specs.Calls.{asked}
use Rattle.disk_folder.specs.Attributes.{Lasts}
use Rattle.disk_folder.specs.Gives.{Gives, Granted, claims}
use Rattle.disk_folder.proofs.CallEnds.{done_of, follows_told, unserved_told, known_of, stand_room, stand_same, unlinked}
use Rattle.disk_folder.proofs.folder.FolderCalls.call.Goals as goal

pub invariant_of-self : goal.invariant_of-self
invariant_of-self g c = λ h none.
    let before = or_parts c.self.inside.linked c.is_granted-granted.result none in
    let is = unlinked (asked c.args.call) c.perform-ended.result c.conclude.result c.into_answer-answer.result c.conclude.ensures.told c.into_answer-answer.ensures.answer (sym c.is_granted-granted.ensures ∙ before.1) in
    let stood = c.self.invariant h before.0 in
    let at = g.D.Disk.tree c.self.inside.disk in
    let all = stand_room at (g.D.Disk.stands c.self.inside.disk) c.self.inside.cache c.begin.new.cache c.begin.ensures stood.0 in (
      stand_same (g.D.Disk.tree c.perform-ended.new.disk) (g.D.Disk.stands c.perform-ended.new.disk) c.perform-ended.new.cache c.note_own.new.cache c.note_own.ensures (c.perform-ended.ensures.stand is all),
      c.perform-ended.ensures.listed is all stood.1,
    )

pub returns : goal.returns
returns g c =
    let at = g.D.Disk.tree c.self.inside.disk in
    let call = asked c.args.call in
    let before = λ (none : (c.self.inside.linked || c.is_granted-granted.result) ≡ false). or_parts c.self.inside.linked c.is_granted-granted.result none in
    let is = λ (none : (c.self.inside.linked || c.is_granted-granted.result) ≡ false). unlinked call c.perform-ended.result c.conclude.result c.into_answer-answer.result c.conclude.ensures.told c.into_answer-answer.ensures.answer (sym c.is_granted-granted.ensures ∙ (before none).1) in
    let all = λ (h : g.D.Disk.honest) (none : (c.self.inside.linked || c.is_granted-granted.result) ≡ false). stand_room at (g.D.Disk.stands c.self.inside.disk) c.self.inside.cache c.begin.new.cache c.begin.ensures (c.self.invariant h (before none).0).0 in
    subst (λ (v : g.row.D.Denot × ℕ × Bool). Gives (claims g.D.Disk.honest g.D.Disk.tree g.D.Disk.has_set g.D.Disk.has_synced) v call c.into_answer-answer.result (c.perform-ended.new.disk, c.into_answer-answer.new.failures, c.self.inside.linked || c.is_granted-granted.result)) c.self.view_is (record {
      tells = record { failed = c.conclude.result.failed; told = follows_told call c.conclude.result c.into_answer-answer.result c.into_answer-answer.ensures.answer c.conclude.ensures.follows; unserved = unserved_told call c.conclude.result c.into_answer-answer.result c.into_answer-answer.ensures.answer c.conclude.ensures.unserved; count = c.into_answer-answer.ensures.count };
      linked = ap (λ (granted : Bool). c.self.inside.linked || granted) c.is_granted-granted.ensures;
      known = λ h none. known_of at (g.D.Disk.tree c.perform-ended.new.disk) c.self.inside.failures c.into_answer-answer.new.failures call c.perform-ended.result c.conclude.result c.into_answer-answer.result c.conclude.ensures.told c.into_answer-answer.ensures.answer c.into_answer-answer.ensures.count (c.perform-ended.ensures.ends (is none) (all h none) (c.self.invariant h (before none).0).1);
      lasts = λ h none done. done_of (Lasts (g.D.Disk.has_set c.perform-ended.new.disk) (g.D.Disk.has_synced c.perform-ended.new.disk) call) c.perform-ended.result c.conclude.result c.into_answer-answer.result c.conclude.ensures.told c.into_answer-answer.ensures.answer done (c.perform-ended.ensures.lasts (is none) (all h none));
      granted = λ h unlinked done. done_of (Granted at call (g.D.Disk.tree c.perform-ended.new.disk)) c.perform-ended.result c.conclude.result c.into_answer-answer.result c.conclude.ensures.told c.into_answer-answer.ensures.answer done (c.perform-ended.ensures.granted (stand_room at (g.D.Disk.stands c.self.inside.disk) c.self.inside.cache c.begin.new.cache c.begin.ensures (c.self.invariant h unlinked).0));
    })
