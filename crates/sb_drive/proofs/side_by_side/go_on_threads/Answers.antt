-- What came back from the places goes on with what was put there.
use Rattle.std.proofs.Common.{◌≡◌, ◌<◌, ◌∙◌, List, length, drop, get_or, sym, ap, subst, All, arith}
use Rattle.std.proofs.lemmas.List.{take_at}
use Rattle.sb_drive.specs.SideBySide.{GoesOn, IsWholeGroup}
use Rattle.sb_drive.specs.declared.group.Group.{Group}
use Rattle.sb_drive.proofs.side_by_side.go_on_threads.Goals as goal

pub returns-clause-whole : goal.returns-clause-whole
returns-clause-whole g c =
    let same : c.swap_with_slice-2.new.self ≡ c.visit_all-back.result.items = c.swap_with_slice-2.ensures.after ∙ c.deref_mut-2.ensures.value in
    subst (λ (zs : List (Group g.row.N.Denot)). All (IsWholeGroup g.N.Node.whole) zs) (sym same) (λ k d lt. (c.visit_all-back.ensures.kept k d lt).whole_nodes)

pub returns-clause-goes_on : goal.returns-clause-goes_on
returns-clause-goes_on g c k none lt =
    let same : c.swap_with_slice-2.new.self ≡ c.visit_all-back.result.items = c.swap_with_slice-2.ensures.after ∙ c.deref_mut-2.ensures.value in
    let filled = c.swap_with_slice.new.other in
    let as_many : length filled ≡ c.in-Ok.shared.len = omega (arith, c.swap_with_slice.ensures.other_len, ap length c.deref_mut.ensures.value, c.in-Ok.shared.ok.0) in
    let before : c.of.result.value.items ≡ c.args.groups.now =
    ap (λ v. v.items) c.of.ensures ∙ take_at filled (drop (length filled) c.in-Ok.shared.items) c.in-Ok.shared.len as_many ∙ c.swap_with_slice.ensures.other_after in
    let long : length c.swap_with_slice-2.new.self ≡ length c.args.groups.now = c.swap_with_slice-2.ensures.len ∙ c.swap_with_slice.ensures.len in
    let there : k < length c.visit_all-back.result.items = subst (λ (zs : List (Group g.row.N.Denot)). k < length zs) same (omega arith) in
    let h = c.visit_all-back.ensures.kept k none there in
    let goes : (xs ys : List (Group g.row.N.Denot)) → Type 0 = (λ xs ys. GoesOn g.N.Node.reaches g.N.Node.rests g.N.Node.turns c.args.number (get_or xs k none) (get_or ys k none)) in
    subst (λ zs. goes c.args.groups.now zs) (sym same) (subst (λ zs. goes zs c.visit_all-back.result.items) before
    (h.goes_on none (subst (λ (zs : List (Group g.row.N.Denot)). k < length zs) (sym before) lt)))
