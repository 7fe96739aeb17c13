-- The logs of a shared table's threads, and what a closed one says.
use Rattle.std.proofs.Common.{ℕ, ◌+◌, ◌≡◌, List, [], ◌∷◌, ◌++◌, map, ap, sym, ◌∙◌, arith}
use Rattle.std.specs.List.{range_with_len}
use Rattle.std.proofs.lemmas.List.FromFn.{map-range_with_len_more}
use Rattle.shared_history.specs.declared.views.View.{View}
use Rattle.shared_history.specs.Views.{thread_log}
use Rattle.table_shared.specs.declared.entries.LogEntry.{LogEntry}
use Rattle.table_shared.specs.Runs.{Log}

module _ {L : Type 0} where
  pub thread_logs_more : (thread_logs pushed : List (View (LogEntry L))) (log : Log L) (n given : ℕ) (new : View (LogEntry L)) → pushed ≡ thread_logs ++ new ∷ [] → thread_logs ≡ map (λ index. thread_log index [] []) (range_with_len 0 n) → log ≡ [] → given ≡ n → new ≡ thread_log given log []
      → pushed ≡ map (λ index. thread_log index [] []) (range_with_len 0 (n + 1))
  thread_logs_more thread_logs pushed log n given new more all none count is =
      let f : ℕ → View (LogEntry L) = λ index. thread_log index [] [] in
      let last : new ≡ f n = is ∙ (ap (λ (l : Log L). thread_log given l []) none ∙ ap f count) in
      more ∙ (ap (λ (v : View (LogEntry L)). thread_logs ++ v ∷ []) last ∙ (ap (λ (vs : List (View (LogEntry L))). vs ++ f n ∷ []) all ∙ sym (map-range_with_len_more f 0 n n (omega arith))))
