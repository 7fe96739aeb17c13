-- The results of one frame, by its class.
use Rattle.std.proofs.Common.{ℕ, ◌≡◌, pos, Bool, true, false, List, [], Option, Some, None, inl, inr, refl, sym, ap, subst, ◌∙◌}
use Rattle.errno.specs.declared.TheConstants.{EIO, ENOMEM}
use Rattle.wire.specs.Faults.{fault_errno}
use Rattle.terms.specs.declared.settings.Names.TheVariants.{Bytes}
use Rattle.wire.specs.Requests.{IsRequest, opcode_in, unique_in}
use Rattle.wire.specs.Written.{le, body_bytes, reply_bytes}
use Rattle.wire.specs.declared.greeting.Negotiated.{Negotiated}
use Rattle.wire.specs.declared.reply.ReplyBody.TheVariants.{Failed, Done}
use Rattle.wire.specs.declared.request.Request.{Request}
use Rattle.engine.specs.declared.classes.Class.{Class}
use Rattle.engine.specs.declared.classes.Class.TheVariants.{Ignored, Unexpected, InitFrame, DestroyFrame, Asking}
use Rattle.engine.specs.declared.ends.SessionEnd.{SessionEnd}
use Rattle.engine.specs.declared.links.Sent.{Sent}
use Rattle.engine.specs.Classes.{class}
use Rattle.engine.specs.Reference.{AtReply, HandlesFrame, Turn, agrees, ending, init_reply_of, negotiated_by, sent_in}
use Rattle.engine.specs.Replies.{done_reply, refusal, TakesMemory}
use Rattle.engine.specs.Serving.{Behaviour, Environment, around}
use Rattle.engine.specs.Walks.{HandlesInitFrame, IsHandled, HandlesDestroy, Rules, Stand, RepliesInit, RepliesInitBy, WorkedOff, stand}
use Rattle.engine.proofs.Turns.{answering, silent}

-- a reply that is only a header is written as its error
pub confirmed : (unique : ℕ) → reply_bytes (refusal unique (pos 0)) ≡ reply_bytes (done_reply unique)
unfolding reply_bytes body_bytes le
confirmed unique = refl

-- ---- INIT

module _ {L : Type 0} (sends : L → List ℕ → Sent → L → Type 0) where
  pub welcomed : (unique : ℕ) (answer : Negotiated) (before : Bool) (old new : L) (sent : Sent) (now : Bool) → sends old (reply_bytes (record { unique = unique; body = init_reply_of answer })) sent new → now ≡ agrees answer before
      → RepliesInit sends unique answer before old sent new now
  welcomed unique answer before old new sent now s is = record {
    told = record { refused = None; said = init_reply_of answer; said_is = refl; offer = s };
    agreed = is;
  }

  pub unwelcomed : (unique : ℕ) (answer : Negotiated) (before : Bool) (old new : L) (sent : Sent) (now : Bool) → TakesMemory (init_reply_of answer) → sends old (reply_bytes (refusal unique ENOMEM)) sent new → now ≡ agrees answer before
      → RepliesInit sends unique answer before old sent new now
  unwelcomed unique answer before old new sent now takes s is = record {
    told = record { refused = Some AtReply; said = Failed ENOMEM; said_is = (takes, refl); offer = s };
    agreed = is;
  }

-- ---- one frame

module _ {W L C D : Type 0} (rules : Rules W L) (does : Behaviour C D) where
  -- a frame of this class
  met_as : (class' : Class) (frame : List ℕ) (turn : Turn) (old new : Stand W) → turn.frame ≡ frame → class' ≡ class old.agreed (opcode_in frame) → HandlesFrame rules.table rules.settings old.agreed class' old.world turn new.world new.agreed
      → HandlesFrame rules.table rules.settings old.agreed (class old.agreed (opcode_in turn.frame)) old.world turn new.world new.agreed
  met_as class' frame turn old new same is m = subst (λ (k : Class). HandlesFrame rules.table rules.settings old.agreed k old.world turn new.world new.agreed) (is ∙ ap (λ f. class old.agreed (opcode_in f)) (sym same)) m

  pub ignored : (frame : List ℕ) (old : Environment (Stand W) L C D) → Ignored ≡ class old.at.agreed (opcode_in frame) → IsHandled rules does frame old None old
  ignored frame old is = record {
    turn = silent frame;
    frame_is = refl;
    end_is = refl;
    meets = met_as Ignored frame (silent frame) old.at old.at refl is (record { no_offer = refl; no_call = refl; no_folder = refl; no_place = refl }, refl, record { lives = refl; agreed = refl });
    draws = record { makes = refl; keeps = refl };
    passes = refl;
  }

  pub unexpected : (frame : List ℕ) (old : Environment (Stand W) L C D) (link : L) (sent : Sent) (end : Option SessionEnd) → Unexpected ≡ class old.at.agreed (opcode_in frame) → rules.sends old.link (reply_bytes (refusal (unique_in frame) EIO)) sent link → end ≡ ending (Some sent) false
      → IsHandled rules does frame old end (around link old.served old.at)
  unexpected frame old link sent end is offer ends =
      let turn = answering frame None [] (unique_in frame) (Failed EIO) sent in
      record {
        turn = turn;
        frame_is = refl;
        end_is = ends;
        meets = met_as Unexpected frame turn old.at old.at refl is ((Failed EIO, refl, record { offers = refl; no_call = refl; folders_are = refl; same = refl }), record { lives = refl; agreed = refl });
        draws = record { makes = refl; keeps = refl };
        passes = offer;
      }

  welcomed_by : (frame : List ℕ) (q : Request) (answer : Option Negotiated) (old : Environment (Stand W) L C D) (link : L) (now : Bool) (sent : Sent) (end : Option SessionEnd) → InitFrame ≡ class old.at.agreed (opcode_in frame) → IsRequest Bytes frame q → answer ≡ negotiated_by q.operation
      → RepliesInitBy rules.sends q.unique answer old.at.agreed old.link sent link now → end ≡ ending (Some sent) false
      → IsHandled rules does frame old end (around link old.served (stand old.at.world now))
  welcomed_by frame q None old link now sent end is request by w ends = absurd w
  welcomed_by frame q (Some answer) old link now sent end is request by w ends =
      let turn = answering frame w.told.refused [] q.unique w.told.said sent in
      record {
        turn = turn;
        frame_is = refl;
        end_is = ends;
        meets = met_as InitFrame frame turn old.at (stand old.at.world now) refl is (refl, inl (q, request, rw (← by) ((w.told.said, w.told.said_is, record { offers = refl; no_call = refl; folders_are = refl; same = refl }), w.agreed)));
        draws = record { makes = refl; keeps = refl };
        passes = w.told.offer;
      }

  pub greeted : (frame : List ℕ) (old : Environment (Stand W) L C D) (link : L) (now : Bool) (sent : Sent) (end : Option SessionEnd) → InitFrame ≡ class old.at.agreed (opcode_in frame) → HandlesInitFrame rules.sends frame old.at.agreed old.link sent link now → end ≡ ending (Some sent) false
      → IsHandled rules does frame old end (around link old.served (stand old.at.world now))
  greeted frame old link now sent end is (inl w) ends = welcomed_by frame w.0 (negotiated_by w.0.operation) old link now sent end is w.1 refl w.2 ends
  greeted frame old link now sent end is (inr (f, keeps)) ends =
      let turn = answering frame None [] (unique_in frame) (Failed (fault_errno f.fault)) sent in
      record {
        turn = turn;
        frame_is = refl;
        end_is = ends;
        meets = met_as InitFrame frame turn old.at (stand old.at.world now) refl is (refl, inr (f.fault, f.first, (Failed (fault_errno f.fault), refl, record { offers = refl; no_call = refl; folders_are = refl; same = refl }), keeps));
        draws = record { makes = refl; keeps = refl };
        passes = f.offer;
      }

  pub parted : (frame : List ℕ) (old : Environment (Stand W) L C D) (link : L) (end : Option SessionEnd) → DestroyFrame ≡ class old.at.agreed (opcode_in frame) → HandlesDestroy rules.sends frame old.link end link
      → IsHandled rules does frame old end (around link old.served old.at)
  parted frame old link end is (inl (q, request, sent, offer, ends)) =
      let turn = record (answering frame None [] q.unique Done sent) { destroyed = true } in
      record {
        turn = turn;
        frame_is = refl;
        end_is = ends;
        meets = met_as DestroyFrame frame turn old.at old.at refl is (refl, inl (q, request, (Done, refl, record { offers = refl; no_call = refl; folders_are = refl; same = refl }), refl));
        draws = record { makes = refl; keeps = refl };
        passes = offer;
      }
  parted frame old link end is (inr (sent, f, ends)) =
      let turn = answering frame None [] (unique_in frame) (Failed (fault_errno f.fault)) sent in
      record {
        turn = turn;
        frame_is = refl;
        end_is = ends;
        meets = met_as DestroyFrame frame turn old.at old.at refl is (refl, inr (f.fault, f.first, (Failed (fault_errno f.fault), refl, record { offers = refl; no_call = refl; folders_are = refl; same = refl }), refl));
        draws = record { makes = refl; keeps = refl };
        passes = f.offer;
      }

  pub asked : (frame : List ℕ) (old new : Environment (Stand W) L C D) (sent : Option Sent) (end : Option SessionEnd) → Asking ≡ class old.at.agreed (opcode_in frame) → new.at.agreed ≡ old.at.agreed
      → WorkedOff rules does frame (around old.link old.served old.at.world) sent (around new.link new.served new.at.world) → end ≡ ending sent false
      → IsHandled rules does frame old end new
  asked frame old new sent end is same w ends = record {
    turn = w.turn;
    frame_is = w.frame_is;
    end_is = ends ∙ ap (λ x. ending x false) (sym w.sent_is) ∙ ap (λ d. ending (sent_in w.turn.offer) d) (sym w.lives);
    meets = met_as Asking frame w.turn old.at new.at w.frame_is is (w.asks, record { lives = w.lives; agreed = same });
    draws = w.draws;
    passes = w.passes;
  }
