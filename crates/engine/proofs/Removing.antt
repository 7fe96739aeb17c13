-- Removing files that are still hidden, one after another.
use Rattle.std.proofs.Common.{ℕ, ◌+◌, ◌<◌, ◌≡◌, List, [], ◌∷◌, ◌++◌, Some, None, Result, Ok, Err, length, get_or, map, take, refl, sym, ap, ◌∙◌}
use Rattle.std.specs.Prelude.{IfOk, OnErr}
use Rattle.std.proofs.lemmas.List.{map-append, take_more}
use Rattle.paths.specs.Prefixes.{Names}
use Rattle.backing.specs.Calls.{Asked, AskRemove}
use Rattle.backing.specs.declared.call.Answer.{Answer}
use Rattle.table.specs.Leftovers.{AreLeftovers}
use Rattle.table_steps.specs.World.{World}
use Rattle.engine.specs.Serving.{Gives, RemovesAll, RemovesLeft}
use Rattle.engine.specs.Tables.{worlds}
use Rattle.engine.proofs.Runs.{chain_append, chain_one}
use Rattle.ops.specs.Scripts.{Made}

pub removed_on : {C : Type 0} (gives : C → Asked → Answer → C → Type 0) (old mid new : C) (paths : List Names) (i : ℕ) (d : Names) (answer : Answer) → i < length paths
    → RemovesAll gives old (take i paths) mid → gives mid (AskRemove (get_or paths i d)) answer new → RemovesAll gives old (take (i + 1) paths) new
removed_on gives old mid new paths i d answer within so_far step =
    let m : Made = record { call = AskRemove (get_or paths i d); answer = answer } in
    let ask : Names → Asked = λ path. AskRemove path in
    let more : map ask (take i paths ++ get_or paths i d ∷ []) ≡ map ask (take (i + 1) paths) = sym (ap (λ (ps : List Names). map ask ps) (take_more paths i d within)) in
    record {
      removals = so_far.removals ++ m ∷ [];
      asked = map-append (λ (n : Made). n.call) so_far.removals (m ∷ []) ∙ (ap (λ (cs : List Asked). cs ++ m.call ∷ []) so_far.asked ∙ (sym (map-append ask (take i paths) (get_or paths i d ∷ [])) ∙ more));
      makes = chain_append (Gives gives) old mid new so_far.removals (m ∷ []) so_far.makes (chain_one (Gives gives) mid new m step);
    }

-- the list that was asked for, or none
pub left_removed : {C E : Type 0} (gives : C → Asked → Answer → C → Type 0) (world : World) (old new : C) (listed : Result (List Names) E) → IfOk listed (AreLeftovers world.at) → IfOk listed (λ paths. RemovesAll gives old paths new) → OnErr listed (new ≡ old)
    → RemovesLeft worlds gives old world new
left_removed gives world old new (Ok paths) left removed same = record { listed = Some paths; removals = removed.removals; removes = (left, removed.asked); makes = removed.makes }
left_removed gives world old new (Err e) left removed same = record { listed = None; removals = []; removes = refl; makes = same }
