-- What the passes of the reply queue know.
use Rattle.std.specs.Prelude.{◌≡◌, ℕ, zero, suc, ◌+◌, ◌<◌, ◌≤◌, Bool, true, false, List, [], ◌∷◌, ◌++◌, length, eqb}
use mathlib.Core.Option.{some}
use lib.ListN.{get_elem?}
use Rattle.engine_queues.specs.declared.replies.QueuedReply.{QueuedReply}
use Rattle.engine_queues.specs.declared.replies.ReplyLane.{ReplyLane}

module _ {M : Type 0} where
  abbrev pub writer : List (QueuedReply M) → ℕ → List (List (QueuedReply M)) → ReplyLane M
  writer got made known = record { sends = false; from = 0; put = []; gets = true; got = got; made = made; known = known }

  abbrev pub sender : ℕ → List (QueuedReply M) → ReplyLane M
  sender from put = record { sends = true; from = from; put = put; gets = false; got = []; made = 0; known = [] }

  abbrev pub idle : ReplyLane M
  idle = record { sends = false; from = 0; put = []; gets = false; got = []; made = 0; known = [] }

  abbrev pub put_of : ReplyLane M → QueuedReply M → ReplyLane M
  put_of v x = record { sends = v.sends; from = v.from; put = v.put ++ x ∷ []; gets = v.gets; got = v.got; made = v.made; known = v.known }

  abbrev pub got_of : ReplyLane M → QueuedReply M → ReplyLane M
  got_of v x = record { sends = v.sends; from = v.from; put = v.put; gets = v.gets; got = v.got ++ x ∷ []; made = v.made; known = v.known }

  -- the writer has made one more sender's pass
  abbrev pub one_more : ReplyLane M → ReplyLane M
  one_more v = record { sends = v.sends; from = v.from; put = v.put; gets = v.gets; got = v.got; made = v.made + 1; known = v.known }

  -- the writer learns what a sender that has ended had put
  abbrev pub told : ReplyLane M → ReplyLane M → ReplyLane M
  told v u = record { sends = v.sends; from = v.from; put = v.put; gets = v.gets; got = v.got; made = v.made; known = v.known ++ u.put ∷ [] }

  abbrev pub keep : Bool → QueuedReply M → List (QueuedReply M) → List (QueuedReply M)
  keep true r rs = r ∷ rs
  keep false r rs = rs

  -- the queued replies of sender p, in order
  abbrev pub of : ℕ → List (QueuedReply M) → List (QueuedReply M)
  of p [] = []
  of p (r ∷ rs) = keep (eqb r.from p) r (of p rs)

  -- the list at index p
  abbrev pub nth : List (List (QueuedReply M)) → ℕ → List (QueuedReply M)
  nth [] p = []
  nth (l ∷ ls) zero = l
  nth (l ∷ ls) (suc p) = nth ls p

  -- for each sender, what was got and what is left is what it put, in its order
  abbrev pub IsWhole : List (List (QueuedReply M)) → List (QueuedReply M) → List (QueuedReply M) → Type 0
  IsWhole puts got left = (p : ℕ) → of p (got ++ left) ≡ nth puts p

  -- of each sender, what was got is what it put, in its order
  abbrev pub AreGot : List (List (QueuedReply M)) → List (QueuedReply M) → Type 0
  AreGot puts got = (p : ℕ) → of p got ≡ nth puts p

  -- seat p is 0 if no pass sends as p, and otherwise the number of the pass that does, plus 1
  abbrev pub FitsSender : (ℕ → ℕ) → (ℕ → List (QueuedReply M)) → ℕ → ReplyLane M → Type 0
  FitsSender seat sent pass v = v.sends ≡ true → (seat v.from ≡ pass + 1) × (v.put ≡ sent v.from)

  abbrev pub FitsWriter : ℕ → (ℕ → ℕ) → (ℕ → List (QueuedReply M)) → List (QueuedReply M) → ℕ → ReplyLane M → Type 0
  FitsWriter reader seat sent got pass v = v.gets ≡ true
      → (pass ≡ reader) × (v.got ≡ got)
      × ((p : ℕ) → v.made ≤ p → (seat p ≡ 0) × (sent p ≡ []))
      × ((k : ℕ) → k < length v.known → (seat k ≡ 0) × (nth v.known k ≡ sent k))
      × (length v.known ≤ v.made)

  abbrev pub Fits : ℕ → (ℕ → ℕ) → (ℕ → List (QueuedReply M)) → List (QueuedReply M) → ℕ → ReplyLane M → Type 0
  Fits reader seat sent got pass v = FitsSender seat sent pass v × FitsWriter reader seat sent got pass v

  abbrev pub Posted : List (QueuedReply M) → List (ReplyLane M) → Type 0
  Posted items views = (reader : ℕ) × (seat : ℕ → ℕ) × (sent : ℕ → List (QueuedReply M)) × (got : List (QueuedReply M))
      × ((p : ℕ) → of p (got ++ items) ≡ sent p)
      × ((pass : ℕ) (v : ReplyLane M) → get_elem? views pass ≡ some v → Fits reader seat sent got pass v)
