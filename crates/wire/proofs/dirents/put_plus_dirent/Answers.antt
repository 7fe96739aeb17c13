use Rattle.std.proofs.Common.{rules, ◌≡◌, ℕ, List, [], ◌++◌, ap, sym, ◌∙◌, append_assoc}
use Rattle.wire.specs.Dirents.{PlusDirent, dirent_bytes, dirent_in, given_values, padding_of}
use Rattle.wire.specs.Replies.{entry_layout}
use Rattle.wire.specs.Written.{written, zeros}
use Rattle.wire.proofs.Listed.{dirents, plus_parts}
use Rattle.wire.proofs.Words.{joined_on, one_by_one}
use Rattle.wire.proofs.dirents.put_plus_dirent.Goals as goal

pub returns-clause-items : goal.returns-clause-items
returns-clause-items c =
    let words = c.given_words.result in
    let given = written entry_layout (given_values c.args.entry.now) in
    let head = c.word-ino.result ++ (c.word-next.result ++ (c.len_and-last.result ++ [])) in
    let name = c.args.name.now ++ zeros (padding_of c.args.name.now) in
    let p : PlusDirent = record { entry = c.args.entry.now; next = c.args.next; kind = c.args.kind; name = c.args.name.now } in
    let spread : one_by_one 16 0 words head ≡ given ++ head = sym (joined_on 16 words head c.given_words.ensures.len) ∙ ap (λ (w : List ℕ). w ++ head) c.given_words.ensures.words in
    let dirent : head ++ name ≡ dirent_bytes (dirent_in p) = search (rules, dirents) in
    let padded : c.put_padded.new.out.items ≡ c.put_words.new.out.items ++ name = search rules in
    padded
    ∙ (ap (λ (z : List ℕ). z ++ name) (c.put_words.ensures.items ∙ ap (λ (z : List ℕ). c.args.out.now.items ++ z) spread)
    ∙ (append_assoc c.args.out.now.items (given ++ head) name
    ∙ ap (λ (z : List ℕ). c.args.out.now.items ++ z) (append_assoc given head name ∙ (ap (λ (z : List ℕ). given ++ z) dirent ∙ sym (plus_parts p)))))
