-- If at the beginning of a session each node with a hidden mark is at a reserved name, this remains so.
use Rattle.std.proofs.Common.{ℕ, List, Option, Some, None, sym, subst}
use Rattle.paths.specs.Prefixes.{Names}
use Rattle.table_hiding.specs.Hiding.{KeepsHidden}
use Rattle.table_hiding.proofs.Keeping.{begins_keep, begun_unreserved, finishes_keep, forgets_keep, left_marked, settles_keep}
use Rattle.table_steps.specs.World.{IsLawfulWorld, World}
use Rattle.terms.specs.declared.settings.Settings.{Settings}
use Rattle.ops.specs.Scripts.{Made}
use Rattle.engine.specs.declared.ends.SessionEnd.{SessionEnd}
use Rattle.engine.specs.Hiding.{hiding}
use Rattle.engine.specs.Reference.{IsSession, Stop, Turn, starting}
use Rattle.engine.specs.Serving.{Behaviour, Environment, IsClientRun, IsSessionRun, Removes, Traffic, around, heard_of, turns_of}
use Rattle.engine.specs.Tables.{worlds}
use Rattle.engine.proofs.Carrying.{Carries, turns_carried}

-- such a world, which is lawful
abbrev pub IsKeeping : World → Type 0
IsKeeping w = IsLawfulWorld w × KeepsHidden w

pub worlds_carry : Carries worlds hiding IsKeeping
worlds_carry = record {
  begins = λ old new unique want told plain is it.
      let keeps = begins_keep old new is.0 it.1 is.1 unique want told (begun_unreserved want told plain) it.0 in
      ((it.0, it.1, keeps), (it.1, keeps));
  finishes = λ old new id outcome answer is it.
      let keeps = finishes_keep old new is.0 it.1 is.1 id outcome answer it.0 in
      ((it.0, it.1, keeps), (it.1, keeps));
  settles = λ old new answer put taken is it.
      let keeps = settles_keep old new is.0 it.2 is.1 answer taken it.0 it.1 in
      ((it.0, it.1, it.2, keeps), (it.2, keeps));
  forgets = λ old new number n is it.
      let keeps = forgets_keep old new is.0 it.2 is.1 number n it.0 it.1 in
      ((it.0, it.1, it.2, keeps), (it.2, keeps));
  finds = λ old new fh file is it. (it, subst IsKeeping (sym it.1) is);
  knows = λ answer known. known;
  idle = λ w idle. idle;
}

session_keeps : (settings : Settings) (world : World) (heard : List ℕ) (stop : Option Stop) (turns : List Turn) (last : World) (end : SessionEnd) → IsKeeping world → IsSession worlds settings world heard stop turns last end
    → IsSession hiding settings world heard stop turns last end × IsKeeping last
session_keeps settings world heard stop turns last end is it =
    let carried = turns_carried worlds hiding IsKeeping worlds_carry settings turns (starting world) it.reached is it.run in
    let session : IsSession hiding settings world heard stop turns last end = record {
      fresh = it.fresh;
      dropped = it.dropped;
      rest = it.rest;
      frames = it.frames;
      reached = it.reached;
      run = carried.0;
      last_is = it.last_is;
      closes = it.closes;
    } in
    (session, subst IsKeeping (sym it.last_is) carried.1)

removes_marked : (world : World) (listed : Option (List Names)) (removals : List Made) → KeepsHidden world → Removes worlds world listed removals → Removes hiding world listed removals
removes_marked world None removals keeps it = it
removes_marked world (Some paths) removals keeps it = (left_marked world paths keeps it.0, it.1)

module _ {L C D : Type 0} (settings : Settings) (over : Traffic L) (does : Behaviour C D) where
  client_keeps : (old new : Environment World L C D) (end : SessionEnd) → IsKeeping old.at → IsClientRun worlds settings over does old new end → IsClientRun hiding settings over does old new end × IsKeeping new.at
  client_keeps old new end is it =
      let s = session_keeps settings old.at (heard_of it.steps) it.stop (turns_of it.steps) new.at end is it.session in
      let run : IsClientRun hiding settings over does old new end = record {
        steps = it.steps;
        passes = it.passes;
        draws = it.draws;
        kept = it.kept;
        paces = it.paces;
        stop = it.stop;
        stopped = it.stopped;
        session = s.0;
        memory = it.memory;
      } in
      (run, s.1)

  -- the whole session, and its end
  pub run_keeps : (old new : Environment World L C D) (end : SessionEnd) → IsLawfulWorld old.at → KeepsHidden old.at → IsSessionRun worlds settings over does old new end → IsSessionRun hiding settings over does old new end
  run_keeps old new end lawful keeps it =
      let client = client_keeps old (around new.link it.left new.at) end (lawful, keeps) it.client in
      record {
        left = it.left;
        client = client.0;
        removal = record {
          listed = it.removal.listed;
          removals = it.removal.removals;
          removes = removes_marked new.at it.removal.listed it.removal.removals client.1.1 it.removal.removes;
          makes = it.removal.makes;
        };
        dirs_are = it.dirs_are;
      }
