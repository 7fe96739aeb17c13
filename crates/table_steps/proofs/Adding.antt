-- The sums over a world are determined.
use Rattle.std.proofs.Common.{◌≡◌, ap, ◌∙◌}
use Rattle.table_requests.specs.declared.data.Promise.{Promise}
use Rattle.collections.proofs.Once.{sum_once}
use Rattle.table_steps.specs.World.{IsTally, Tally, World}

promise_same : (p q : Promise) → p.nodes ≡ q.nodes → p.postings ≡ q.postings → p.files ≡ q.files → p ≡ q
promise_same p q a b c =
    ap (λ n. let r : Promise = record p { nodes = n } in r) a
    ∙ (ap (λ n. let r : Promise = record p { nodes = q.nodes; postings = n } in r) b
    ∙ ap (λ n. let r : Promise = record q { files = n } in r) c)

tally_same : (s t : Tally) → s.living ≡ t.living → s.counts ≡ t.counts → s.flights ≡ t.flights → s.promised ≡ t.promised → s.files ≡ t.files → s ≡ t
tally_same s t a b c d e =
    ap (λ n. let r : Tally = record s { living = n } in r) a
    ∙ (ap (λ n. let r : Tally = record s { living = t.living; counts = n } in r) b
    ∙ (ap (λ n. let r : Tally = record s { living = t.living; counts = t.counts; flights = n } in r) c
    ∙ (ap (λ p. let r : Tally = record s { living = t.living; counts = t.counts; flights = t.flights; promised = p } in r) d
    ∙ ap (λ n. let r : Tally = record t { files = n } in r) e)))

-- a world has one tally
pub tally_once : (w : World) (s t : Tally) → IsTally w s → IsTally w t → s ≡ t
tally_once w s t a b = tally_same s t
    (sum_once w.at (λ x. 1) s.living t.living a.living b.living)
    (sum_once w.at (λ x. x.count) s.counts t.counts a.counts b.counts)
    (sum_once w.flights (λ f. 1) s.flights t.flights a.flights b.flights)
    (promise_same s.promised t.promised
    (sum_once w.flights _ s.promised.nodes t.promised.nodes a.nodes b.nodes)
    (sum_once w.flights _ s.promised.postings t.promised.postings a.postings b.postings)
    (sum_once w.flights _ s.promised.files t.promised.files a.opening b.opening))
    (sum_once w.files (λ f. 1) s.files t.files a.files b.files)
