-- Extending runs by one step, and by another run.
use Rattle.std.proofs.lemmas.Option.{none-some}
use Rattle.std.proofs.Common.{◌≡◌, Some, None, List, [], ◌∷◌, ◌++◌, refl, sym, subst, append_assoc, append-nil}
use Rattle.backing.specs.Calls.{Asked}
use Rattle.backing.specs.declared.call.Answer.{Answer}
use Rattle.engine.specs.Chain.{Chain}
use Rattle.engine.specs.Playing.{Played, Playing}
use Rattle.ops.specs.Scripts.{Plan, Ask, Over, End, Made, Follows, next_of, after}
use Rattle.engine.specs.Serving.{Behaviour, Draws, Gives}
use Rattle.engine.specs.declared.served.Served.{Served}
use Rattle.handles.specs.Calls.{FolderCall}

pub chain_append : {S E : Type 0} (step : S → E → S → Type 0) (old mid new : S) (es fs : List E) → Chain step old es mid → Chain step mid fs new → Chain step old (es ++ fs) new
chain_append {S = S} {E = E} step old mid new [] fs a b = subst (λ (s : S). Chain step s fs new) a b
chain_append step old mid new (e ∷ es) fs a b = (a.0, a.1, chain_append step a.0 mid new es fs a.2 b)

pub chain_one : {S E : Type 0} (step : S → E → S → Type 0) (old new : S) (e : E) → step old e new → Chain step old (e ∷ []) new
chain_one step old new e a = (new, a, refl)

pub draws_on : {C D : Type 0} (does : Behaviour C D) (old mid new : Served C D) (made more : List Made) (folders rest : List FolderCall) → Draws does old made folders mid → Draws does mid more rest new → Draws does old (made ++ more) (folders ++ rest) new
draws_on does old mid new made more folders rest a b = record {
  makes = chain_append (Gives does.gives) old.calls mid.calls new.calls made more a.makes b.makes;
  keeps = chain_append does.keeps old.dirs mid.dirs new.dirs folders rest a.keeps b.keeps;
}

-- a plan that asks for a call goes on after the answer
asks_on : (now : Plan) (call : Asked) (answer : Answer) → next_of now ≡ Some call → (rest : List Made) (end : End) → Follows (after now answer) rest end → Follows now (record { call = call; answer = answer } ∷ rest) end
asks_on (Ask asks next) call answer e rest end f = (cc, f)
asks_on (Over over) call answer e rest end f = absurd (none-some call e)

is_over : (now : Plan) → next_of now ≡ None → (end : End) × (now ≡ Over end)
is_over (Ask asks next) e = absurd (none-some asks (sym e))
is_over (Over end) e = (end, refl)

pub played_on : {C : Type 0} (gives : C → Asked → Answer → C → Type 0) (first now : Plan) (a b c : C) (call : Asked) (answer : Answer) → Playing gives a first b now → next_of now ≡ Some call → gives b call answer c → Playing gives a first c (after now answer)
played_on gives first now a b c call answer p e step =
    let m : Made = record { call = call; answer = answer } in
    record {
      made = p.made ++ m ∷ [];
      makes = chain_append (Gives gives) a b c p.made (m ∷ []) p.makes (chain_one (Gives gives) b c m step);
      onwards = λ rest end f. subst (λ ms. Follows first ms end) (sym (append_assoc p.made (m ∷ []) rest)) (p.onwards (m ∷ rest) end (asks_on now call answer e rest end f));
    }

-- a script that asks for no more calls has ended with its result
pub played : {C : Type 0} (gives : C → Asked → Answer → C → Type 0) (first now : Plan) (a b : C) (found : End) → Playing gives a first b now → next_of now ≡ None → ((end : End) → now ≡ Over end → found ≡ end) → Played gives a first b found
played gives first now a b found p e finds =
    let over = is_over now e in
    let ends : Follows first (p.made ++ []) over.0 = p.onwards [] over.0 (subst (λ (q : Plan). Follows q [] over.0) (sym over.1) refl) in
    record {
      made = p.made;
      makes = p.makes;
      follows = subst (λ (end : End). Follows first p.made end) (sym (finds over.0 over.1)) (subst (λ ms. Follows first ms over.0) (append-nil p.made) ends);
    }
