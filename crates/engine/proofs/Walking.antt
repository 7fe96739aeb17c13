-- Extending what the code of a session has done by a frame and by a receive.
use Rattle.std.proofs.Common.{ℕ, ◌≡◌, List, [], ◌∷◌, ◌++◌, Option, Some, None, refl, sym, subst, ap, ◌∙◌}
use Rattle.wire.specs.Requests.{IsFramed}
use Rattle.wire.specs.Stream.{BeginsBadly, IsPartial}
use Rattle.engine.specs.declared.ends.SessionEnd.{SessionEnd}
use Rattle.engine.specs.declared.ends.SessionEnd.TheVariants as ends
use Rattle.terms.specs.declared.settings.Settings.{Settings}
use Rattle.engine.specs.Links.{Piece}
use Rattle.engine.specs.Serving.{Behaviour, Environment, Hears, Traffic, Works, around}
use Rattle.engine.specs.Tables.{Table}
use Rattle.engine.specs.Walks.{Side, Stand, by_rules, reaching, side, IsHandled, Walks, WorksOffFrames, IsStep}
use Rattle.engine.proofs.Runs.{chain_append, chain_one}

module _ {W L C D : Type 0} (table : Table W) (settings : Settings) (over : Traffic L) (does : Behaviour C D) where
  pub walks_none : (old : Side W L C D) → Walks table settings over does old old
  walks_none old = record { steps = []; chain = refl }

  pub walks_on : (old mid new : Side W L C D) → Walks table settings over does old mid → Walks table settings over does mid new → Walks table settings over does old new
  walks_on old mid new a b = record {
    steps = a.steps ++ b.steps;
    chain = chain_append (IsStep table settings over does) old mid new a.steps b.steps a.chain b.chain;
  }

  -- a frame at the front of the kept bytes
  frame_walks : (old new : Environment (Stand W) L C D) (kept frame more : List ℕ) (end : Option SessionEnd) → kept ≡ frame ++ more → IsFramed frame → table.is_idle new.at.world
      → IsHandled (by_rules table settings over.sends) does frame old end new
      → Walks table settings over does (side old kept) (reaching (side new more) end)
  frame_walks old new kept frame more end front framed idle w = record {
    steps = Works w.turn ∷ [];
    chain = chain_one (IsStep table settings over does) (side old kept) (reaching (side new more) end) (Works w.turn) (record {
      is_turn = record { goes = refl; meets = w.meets; end = w.end_is; idle = idle };
      front = front ∙ ap (λ xs. xs ++ more) (sym w.frame_is);
      framed = subst (λ xs. IsFramed xs) (sym w.frame_is) framed;
      draws = w.draws;
      passes = w.passes;
    });
  }

  pub frame_on : (start : Side W L C D) (old new : Environment (Stand W) L C D) (kept items frame more : List ℕ) (result end : Option SessionEnd) (now : Settings) → now ≡ settings
      → Walks table settings over does start (side old kept)
      → kept ≡ items ++ more → IsFramed items → items ≡ frame → table.is_idle new.at.world
      → IsHandled (by_rules table now over.sends) does frame old result new → result ≡ end
      → Walks table settings over does start (reaching (side new more) end)
  frame_on start old new kept items frame more result end now set a front framed same idle w is =
      let one = frame_walks old new kept frame more result (front ∙ ap (λ xs. xs ++ more) same) (subst (λ xs. IsFramed xs) same framed) idle
      (subst (λ (t : Settings). IsHandled (by_rules table t over.sends) does frame old result new) set w) in
      subst (λ (e : Option SessionEnd). Walks table settings over does start (reaching (side new more) e)) is
      (walks_on start (side old kept) (reaching (side new more) result) a one)

  -- bytes that were received and fed to the cutter
  pub piece_on : (start : Side W L C D) (old : Environment (Stand W) L C D) (link : L) (kept piece fed : List ℕ)
      → Walks table settings over does start (side old kept) → IsPartial kept → over.receives old.link (Piece piece) link → fed ≡ kept ++ piece
      → Walks table settings over does start (side (around link old.served old.at) fed)
  piece_on start old link kept piece fed a partial r is =
      let new = around link old.served old.at in
      walks_on start (side old kept) (side new fed) a (record {
        steps = Hears (Piece piece) ∷ [];
        chain = chain_one (IsStep table settings over does) (side old kept) (side new fed) (Hears (Piece piece)) (record {
          goes = refl;
          partial = partial;
          brought = r;
          rest = ap (λ xs. side new xs) is;
        });
      })

  -- the next length is bad
  pub bad_stop : (start : Side W L C D) (old : Environment (Stand W) L C D) (kept now : List ℕ) (len : ℕ) → Walks table settings over does start (side old kept) → kept ≡ now → BeginsBadly kept len
      → WorksOffFrames table settings over does start (side old now) (Some (ends.BadLength len))
  bad_stop start old kept now len walks same bad = record {
    reached = None;
    walks = subst (λ (k : List ℕ). Walks table settings over does start (side old k)) same walks;
    stops = subst (λ (k : List ℕ). BeginsBadly k len) same bad;
  }

  -- nothing was received yet
  pub walks_from : (start : Environment (Stand W) L C D) (kept : List ℕ) → kept ≡ [] → Walks table settings over does (side start []) (side start kept)
  walks_from start kept none = subst (λ (k : List ℕ). Walks table settings over does (side start []) (side start k)) (sym none) (walks_none (side start []))
