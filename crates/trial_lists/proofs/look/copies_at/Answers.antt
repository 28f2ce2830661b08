use Rattle.std.proofs.Common.{rules, ◌≡◌, ◌∙◌, ◌<◌, Some, None, find, slice_get, ◌+◌, ◌∷◌, ◌++◌, [], drop, length, sym, ap}
use Rattle.std.specs.List.{filter_map, cons_option}
use Rattle.std.proofs.lemmas.List.{append_assoc}
use Rattle.trial_lists.proofs.Filters.{first_is_found, filter_map_step}
use Rattle.trial_lists.proofs.look.copies_at.Goals as goal
use Rattle.trial_lists.proofs.look.copies_at.Goals.{in-Some+in_ok-copy+in_ok-push, in_default}

pub loop-key-preserved : goal.loop-key-preserved
loop-key-preserved g c =
    let i = c.loop-key.key-index in
    let keys = c.args.keys.now in
    let found = c.loop-key.found in
    let at = λ (key : g.row.K.Denot). find (g.K.SearchKey.wanted key) c.args.rows.now in
    let within : i < length keys = search rules in
    let later = filter_map at (drop (i + 1) keys) in
    let step = c.loop-key.invariant ∙ ap (λ rest. found ++ rest) (filter_map_step at keys i c.key-item.result within c.key-item.is) in
    let first = sym (first_is_found (g.K.SearchKey.wanted c.key-item.result) c.args.rows.now)
    ∙ ap (λ rows. slice_get rows 0) (sym c.rows_at.ensures) in
    elim c.match-first.branch [
      | in-Some+in_ok-copy+in_ok-push w ↦
          let there : slice_get c.rows_at.result.now 0 ≡ Some w.in_ok-copy.field-0 = search rules in
          let more : c.match-first.found ≡ found ++ w.in_ok-copy.field-0 ∷ [] = search rules in
          step ∙ ap (λ one. found ++ cons_option one later) (first ∙ there)
          ∙ sym (append_assoc found (w.in_ok-copy.field-0 ∷ []) later) ∙ ap (λ rows. rows ++ later) (sym more)
      | in_default w ↦
          let none : slice_get c.rows_at.result.now 0 ≡ None = search rules in
          let same : c.match-first.found ≡ found = search rules in
          step ∙ ap (λ one. found ++ cons_option one later) (first ∙ none) ∙ ap (λ rows. rows ++ later) (sym same)
    ]
