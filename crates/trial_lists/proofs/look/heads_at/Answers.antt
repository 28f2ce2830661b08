use Rattle.std.proofs.Common.{rules, ◌≡◌, ◌∙◌, ◌<◌, ◌==◌, ◌&&◌, Some, None, find, map, slice_get, ◌+◌, ◌∷◌, ◌++◌, [], drop, length, sym, ap}
use Rattle.std.specs.List.{filter_map, cons_option}
use Rattle.std.proofs.lemmas.List.{append_assoc}
use Rattle.hub_tables.specs.Rows.{same}
use Rattle.hub_tables.specs.declared.rows.MailRow.{MailRow}
use Rattle.hub_store.specs.Heads.{head_of}
use Rattle.trial_lists.specs.declared.index.EntryKey.{EntryKey}
use Rattle.trial_lists.proofs.Filters.{first_is_found, filter_map_step}
use Rattle.trial_lists.proofs.look.heads_at.Goals as goal
use Rattle.trial_lists.proofs.look.heads_at.Goals.{in-Some+in_ok-head+in_ok-push, in_default}

pub loop-key-preserved : goal.loop-key-preserved
loop-key-preserved c =
    let i = c.loop-key.key-index in
    let keys = c.args.keys.now in
    let heads = c.loop-key.heads in
    let wanted = λ (key : EntryKey) (row : MailRow). same row.supplier key.supplier && (row.number == key.number) in
    let at = λ (key : EntryKey). find (wanted key) c.args.mail.now in
    let within : i < length keys = search rules in
    let later = filter_map at (drop (i + 1) keys) in
    let step = c.loop-key.invariant
    ∙ ap (λ rest. heads ++ map head_of rest) (filter_map_step at keys i c.key-item.result within c.key-item.is) in
    let first = sym (first_is_found (wanted c.key-item.result) c.args.mail.now)
    ∙ ap (λ rows. slice_get rows 0) (sym c.rows_at.ensures) in
    elim c.match-first.branch [
      | in-Some+in_ok-head+in_ok-push w ↦
          let there : slice_get c.rows_at.result.now 0 ≡ Some w.in-Some.entry.now = search rules in
          let shown : w.in_ok-head.field-0 ≡ head_of w.in-Some.entry.now = search rules in
          let more : c.match-first.heads ≡ heads ++ w.in_ok-head.field-0 ∷ [] = search rules in
          step ∙ ap (λ one. heads ++ map head_of (cons_option one later)) (first ∙ there)
          ∙ sym (append_assoc heads (head_of w.in-Some.entry.now ∷ []) (map head_of later))
          ∙ ap (λ head. (heads ++ head ∷ []) ++ map head_of later) (sym shown)
          ∙ ap (λ rows. rows ++ map head_of later) (sym more)
      | in_default w ↦
          let none : slice_get c.rows_at.result.now 0 ≡ None = search rules in
          let same : c.match-first.heads ≡ heads = search rules in
          step ∙ ap (λ one. heads ++ map head_of (cons_option one later)) (first ∙ none)
          ∙ ap (λ rows. rows ++ map head_of later) (sym same)
    ]
