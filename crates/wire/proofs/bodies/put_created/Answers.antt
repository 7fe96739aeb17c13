use Rattle.std.proofs.Common.{rules, ◌≡◌, ℕ, List, [], ◌++◌, ap, sym, ◌∙◌, append_assoc}
use Rattle.wire.specs.Replies.{entry_layout, entry_values, opened_layout, opened_values, created_layout, created_values}
use Rattle.wire.specs.Written.{written}
use Rattle.wire.proofs.Entries.{created_parts, entries}
use Rattle.wire.proofs.Words.{joined_on, one_by_one}
use Rattle.wire.proofs.bodies.put_created.Goals as goal

pub returns-clause-items : goal.returns-clause-items
returns-clause-items c =
    let words = c.entry_words.result in
    let tail = c.word-handle.result ++ (c.pair-flags.result ++ []) in
    let entry = written entry_layout (entry_values c.args.entry.now) in
    let spread : one_by_one 16 0 words tail ≡ entry ++ tail = sym (joined_on 16 words tail c.entry_words.ensures.len) ∙ ap (λ (w : List ℕ). w ++ tail) c.entry_words.ensures.words in
    let opened : tail ≡ written opened_layout (opened_values c.args.fh) = search (rules, entries) in
    let body : one_by_one 16 0 words tail ≡ written created_layout (created_values c.args.entry.now c.args.fh) = spread ∙ (ap (λ (z : List ℕ). entry ++ z) opened ∙ sym (created_parts c.args.entry.now c.args.fh)) in
    c.put_words.ensures.items
    ∙ (ap (λ (z : List ℕ). c.args.out.now.items ++ (c.args.header.length ++ (c.args.header.unique ++ z))) body
    ∙ ap (λ (z : List ℕ). c.args.out.now.items ++ z) (sym (append_assoc c.args.header.length c.args.header.unique (written created_layout (created_values c.args.entry.now c.args.fh)))))
