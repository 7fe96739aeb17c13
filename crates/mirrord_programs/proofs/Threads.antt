-- Folders that are served by several threads.
use Rattle.std.proofs.Common.{ℕ, ◌<◌, ◌≡◌, ◌⊎◌, List, Option, Some, None, IfNone, IfSome, inl, inr, ap}
use Rattle.table_shared.specs.Histories.{Made}
use Rattle.engine.specs.declared.ends.SessionEnd.{SessionEnd}
use Rattle.engine.specs.declared.ends.SessionEnd.TheVariants as end
use Rattle.engine_threads.specs.Ended.{EndsAs}
use Rattle.engine_threads.specs.Served.{served_with, Behaviours, Endpoints, HasServed}
use Rattle.engine_threads.specs.declared.ended.Account.{Account}
use Rattle.engine_threads.specs.declared.given.Given.{Given}
use Rattle.terms.specs.Limits.{limits_of}
use Rattle.mirrord_programs.specs.Workers.{ServesFolders}
use Rattle.terms.specs.declared.terms.Terms.{Terms}

-- what a session is served with, or what came back
abbrev pub endpoints_of : {I O C : Type 0} → Given I O C → Endpoints I O C
endpoints_of given = served_with given.link_in given.link_out given.calls.items

-- what was done with the folders
pub served_by : {I O C : Type 0} (by : Behaviours I O C) (terms : Terms) (workers : ℕ) (given back : Given I O C) (account : Option Account) (over : SessionEnd)
    → (over ≡ end.NoWorkers → (workers ≡ 0) ⊎ (4 < workers))
    → IfNone account (((over ≡ end.Memory) ⊎ (over ≡ end.NoWorkers)) × (back ≡ given))
    → IfSome account (λ a. EndsAs a.passed.input a.passed.is_broken over)
    → IfSome account (λ a. ∥ ((history : List Made) × HasServed by (limits_of terms.bounds) terms.settings a.passed a.sums.totals (endpoints_of given) (endpoints_of back) history) ∥₁)
    → ServesFolders by terms workers given.calls.items given.link_in given.link_out over
served_by by terms workers given back None over only (why, same) ends served =
    (endpoints_of back, inr (record { why = told why; back_is = ap endpoints_of same }))
  where
    told : ((over ≡ end.Memory) ⊎ (over ≡ end.NoWorkers)) → (over ≡ end.Memory) ⊎ ((over ≡ end.NoWorkers) × ((workers ≡ 0) ⊎ (4 < workers)))
    told (inl starved) = inl starved
    told (inr nobody) = inr (nobody, only nobody)
served_by by terms workers given back (Some account) over only unserved ends served =
    (endpoints_of back, inl (record { account = account; served = served; ends = ends }))
