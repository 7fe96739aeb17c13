-- Entries that are taken back one after another.
use Rattle.std.proofs.Common.{ℕ, ◌+◌, ◌-◌, ◌<◌, ◌≤◌, ◌≡◌, suc, zero, Bool, List, [], ◌∷◌, ◌++◌, Some, length, get_or, drop, drop-cons, add-one, refl, sym, ◌∙◌, subst, ◌⊎◌, inl, inr, arith}
use Rattle.ledger.specs.Periods.{Periods, posted}
use Rattle.ledger.specs.declared.postings.Posting.TheVariants.{Back}
use Rattle.ledger.specs.Postings.{Postings}
use Rattle.tree.specs.declared.nodes.Node.{Node}
use Rattle.tree.specs.Places.{Lookup, Nodes, with_node, IsTree}
use Rattle.table_steps.specs.Entries.{TakesBack, TakesNone, TakesAllBack}
use Rattle.table_steps.specs.Sweeping.{IsAmong, HaveReasonsBut, IsNearly, IsTakenBack}
use Rattle.std.proofs.lemmas.List.{drop_all}
use Rattle.table_steps.proofs.Lawful.{booked_back}
use Rattle.table_steps.proofs.Reasons.{HaveReasons-write, HaveReasons-more}

-- an entry of a node that may lack a reason is taken back
pub nearly_back : (at new : Lookup) (ps qs : Periods) (pinned : ℕ → Bool) (but : List ℕ) (n : ℕ) (x : Node) → IsNearly at ps pinned but → at n ≡ Some x → 0 < x.count → IsAmong n but
    → new ≡ with_node at n (record x { count = x.count - 1 }) → qs ≡ posted ps (Back n x.generation) → IsTree new → IsNearly new qs pinned but
nearly_back at new ps qs pinned but n x nearly stood some among is made tree = record {
  booked = rw (is, made) (booked_back at ps pinned nearly.booked n x stood some);
  pruned = record {
    tree = tree;
    reasons = subst (λ a. HaveReasonsBut a pinned but) (sym is)
        (HaveReasons-more (with_node at n (record x { count = x.count - 1 })) pinned (n ∷ but) but (λ m h. elim h [ inl e ↦ subst (λ k. IsAmong k but) (sym e) among | inr later ↦ later ])
        (HaveReasons-write at pinned n x (record x { count = x.count - 1 }) but stood refl nearly.pruned.reasons));
  };
}

-- after the rest is taken back, all is
pub record Continues (old : Lookup) (ps : Periods) (given : List ℕ) (at : Lookup) (qs : Periods) (rest : List ℕ) : Type 0 where
  pub then : (new : Lookup) (rs : Periods) → TakesAllBack at qs rest new rs → TakesAllBack old ps given new rs

pub continues-one : (old : Lookup) (ps : Periods) (given pins : List ℕ) (at : Lookup) (qs : Periods) (i n : ℕ) (mid : Lookup) (ms : Periods) → i < length pins → get_or pins i 0 ≡ n
    → TakesBack at qs n mid ms ⊎ TakesNone at qs n mid ms → Continues old ps given at qs (drop i pins) → Continues old ps given mid ms (drop (i + 1) pins)
continues-one old ps given pins at qs i n mid ms within is back so_far = record {
  then = λ new rs h. so_far.then new rs (rw (drop-cons pins i 0 within, is) (mid, ms, back, rw add-one at h));
}

-- if none is left, all is taken back
pub continues-end : (old : Lookup) (ps : Periods) (given pins : List ℕ) (at : Lookup) (qs : Periods) (i : ℕ) → length pins ≤ i → Continues old ps given at qs (drop i pins) → TakesAllBack old ps given at qs
continues-end old ps given pins at qs i all so_far = so_far.then at qs (subst (λ (ns : List ℕ). TakesAllBack at qs ns at qs) (sym (drop_all i pins all)) (refl, refl))

-- an element of a list is a member of it
pub among_at : (ns : List ℕ) (i n : ℕ) → i < length ns → get_or ns i 0 ≡ n → IsAmong n ns
among_at [] i n within is = absurd (omega arith)
among_at (m ∷ ns) zero n within is = inl (sym is)
among_at (m ∷ ns) (suc i) n within is = inr (among_at ns i n (omega arith) is)

pub IsTakenBack-refl : (t : Nodes) (l : Postings) → IsTakenBack t l t l
IsTakenBack-refl t l = record { living = refl; room = refl; limit = refl; postings = omega arith; grows = omega arith; entries = refl; births = refl; posting_room = omega arith; whole = omega arith; places = refl; posting_limit = refl }

pub IsTakenBack-trans : (a b c : Nodes) (l m n : Postings) → IsTakenBack a l b m → IsTakenBack b m c n → IsTakenBack a l c n
IsTakenBack-trans a b c l m n first then = record {
  living = then.living ∙ first.living;
  room = then.room ∙ first.room;
  limit = then.limit ∙ first.limit;
  postings = omega (arith, first.postings, then.postings);
  grows = omega (arith, first.grows, then.grows);
  entries = then.entries ∙ first.entries;
  births = then.births ∙ first.births;
  posting_room = omega (arith, first.posting_room, then.posting_room);
  whole = omega (arith, first.whole, then.whole);
  places = then.places ∙ first.places;
  posting_limit = then.posting_limit ∙ first.posting_limit;
}
