use Rattle.std.proofs.Common.{◌≡◌, ◌+◌, take, List, ◌++◌, ◌∷◌, [], None, sym, ap, ◌∙◌, subst, Vec}
use Rattle.std.proofs.lemmas.List.{take_more, take_all}
use Rattle.paths.specs.Prefixes.{Name, Names}
use Rattle.std.specs.declared.alloc.Global.{Global}
use Rattle.payload.specs.declared.attributes.Kind.{Kind}
use Rattle.backing.specs.declared.call.Child.{Child}
use Rattle.backing.specs.declared.entries.TreeEntry.{TreeEntry}
use Rattle.backing.specs.Entries.{look, tree_of}
use Rattle.backing.specs.Calls.{Lists}
use Rattle.backing.proofs.Listing.{Listed, listed_child, listed_other, look-take_none, lists_all}
use Rattle.backing.proofs.reading.children_of.Goals as goal
use Rattle.backing.proofs.reading.children_of.Goals.{in-Some+in_ok-push_child-in-Some, in-None}

pub loop-entry-preserved : goal.loop-entry-preserved
loop-entry-preserved c =
    let es = c.args.entries.now in
    let i = c.loop-entry.entry-index in
    let x = c.entry-item.result in
    let p = c.args.folder.now in
    let fresh : look (take i es) x.path ≡ None = subst (λ (e : TreeEntry). look (take i es) e.path ≡ None) (sym c.entry-item.is) (look-take_none es i x c.requires.distinct c.loop-entry-test.true) in
    let more : take (i + 1) es ≡ take i es ++ x ∷ [] = take_more es i x c.loop-entry-test.true ∙ ap (λ (e : TreeEntry). take i es ++ e ∷ []) (sym c.entry-item.is) in
    subst (λ (ys : List TreeEntry). Listed ys p c.match-child_of.list.items) (sym more) (elim c.match-child_of.branch [
      | in-Some+in_ok-push_child-in-Some w ↦
          let name = w.in-Some.name.now in
          let path : x.path ≡ p ++ name ∷ [] = w.in-Some.ensures.some ∙ ap (λ (q : Names). q ++ name ∷ []) c.names.ensures in
          let pushed : w.push_child.new.list.items ≡ c.loop-entry.list.items ++ (record { name = name; kind = w.kind.result }) ∷ [] = w.in_ok-push_child-in-Some.ensures in
          let items = ap (λ (v : Vec Child Global). v.items) w.list-is ∙ (pushed ∙ ap (λ (k : Kind). c.loop-entry.list.items ++ (record { name = name; kind = k }) ∷ []) w.kind.ensures) in
          subst (λ (cs : List Child). Listed (take i es ++ x ∷ []) p cs) (sym items) (listed_child (take i es) x p name c.loop-entry.list.items fresh path c.loop-entry.invariant)
      | in-None w ↦
          let apart : (name : Name) → x.path ≡ p ++ name ∷ [] → ⊥ = λ name e. w.in-None.ensures.none name (e ∙ ap (λ (q : Names). q ++ name ∷ []) (sym c.names.ensures)) in
          let items = ap (λ (v : Vec Child Global). v.items) w.list-is in
          subst (λ (cs : List Child). Listed (take i es ++ x ∷ []) p cs) (sym items) (listed_other (take i es) x p c.loop-entry.list.items fresh apart c.loop-entry.invariant)
    ])

pub returns : goal.returns
returns c =
    let es = c.args.entries.now in
    let whole : take c.loop-entry.entry-index es ≡ es = take_all c.loop-entry.entry-index es c.loop-entry-test.false in
    let all : Listed es c.args.folder.now c.loop-entry.list.items = subst (λ (ys : List TreeEntry). Listed ys c.args.folder.now c.loop-entry.list.items) whole c.loop-entry.invariant in
    subst (λ (cs : List Child). Lists (tree_of es) c.args.folder.now cs) (sym c.from_vec.ensures) (lists_all es c.args.folder.now c.loop-entry.list.items all)
