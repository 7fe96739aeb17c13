-- What is proved about runs, for any table.
use Rattle.std.specs.Prelude.{ℕ, ◌≡◌, ◌≢◌, ◌≤◌, false, [], ◌∷◌, Contains, Some}
use Rattle.table_files.specs.Handles.{IsOpen}
use Rattle.table_footprints.specs.Footprints.{footprint_of}
use Rattle.table_requests.specs.declared.data.Case.{Case}
use Rattle.table_requests.specs.declared.data.Want.{Want}
use Rattle.laws.specs.Outstanding.{Outstanding}
use Rattle.laws.specs.Runs.{Runs}
use Rattle.laws.specs.declared.table_runs.calls.TableCall.TheVariants as call
use Rattle.laws.specs.declared.table_runs.calls.CallResult.TheVariants as told
use Rattle.table_steps.specs.World.{IsLawfulWorld, IsPinned, World}
use Rattle.tree.specs.Places.{HasChild}
use Rattle.tree.specs.declared.nodes.Node.{Node}

-- only its lookup count keeps the node alive
pub record IsKeptByCount (w : World) (number : ℕ) (x : Node) : Type 0 where
  pub here : w.at number ≡ Some x
  pub not_root : number ≢ 1
  pub unmarked : x.hidden ≡ false
  pub unpinned : IsPinned w.flights number → ⊥
  pub closed : IsOpen w.files number → ⊥
  pub childless : HasChild w.at number → ⊥

-- the want names the node, in any case
abbrev pub Names : Want → ℕ → Type 0
Names want number = (c : Case) → Contains (footprint_of want c).given number

-- if all lookups of a node are forgotten and nothing else keeps it alive, no later request on it begins
abbrev pub AreForgottenGone : Type 0
AreForgottenGone = (old new : World) (hand hand' : Outstanding) (number n amount unique : ℕ) (want : Want) (x : Node) → IsLawfulWorld old → IsKeptByCount old number x → x.count ≤ n → Names want number
    → Runs old hand (call.Forget number n ∷ call.Begin unique want ∷ []) (told.Forgot amount ∷ told.Begun ∷ []) new hand' → ⊥
