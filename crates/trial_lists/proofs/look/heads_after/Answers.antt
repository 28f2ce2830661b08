use Rattle.std.proofs.Common.{◌≡◌, ◌≤◌, ◌∙◌, ◌==◌, ◌&&◌, ℕ, List, Result, Ok, Err, IfOk}
use Rattle.std.proofs.Common.{map, find, filter, take, length, sym, subst, ap, rules}
use Rattle.std.specs.Prelude.{nat_lt, min}
use Rattle.std.specs.List.{filter_map}
use Rattle.std.specs.Ordering.{nat_cmp}
use Rattle.std.proofs.lemmas.List.{take_min}
use Rattle.hub_parties.specs.KeyOrder.{bytes_cmp}
use Rattle.hub_tables.specs.Rows.{same}
use Rattle.hub_tables.specs.declared.rows.MailRow.{MailRow}
use Rattle.hub_tables.proofs.Filters.{filter_swap}
use Rattle.hub_tables.proofs.KindOrders.{mail_total}
use Rattle.hub_tables.proofs.Lists.{all_filter}
use Rattle.trial_lists.specs.Index.{entry_key, is_untaken}
use Rattle.hub_store.specs.Heads.{head_of}
use Rattle.hub_store.specs.declared.mail.MailHead.{MailHead}
use Rattle.trial_rows.specs.Alike.{both, same_bytes, same_numbers}
use Rattle.trial_lists.specs.declared.index.EntryKey.{EntryKey}
use Rattle.trial_rows.proofs.Searching.{all_taken}
use Rattle.trial_lists.proofs.Filters.{filter_both, filter_of_map, take_of_map, take_within}
use Rattle.trial_lists.proofs.Indexing.{Again, all_again, found_again}
use Rattle.trial_lists.proofs.look.heads_after.Goals as goal

pub returns-clause-heads : goal.returns-clause-heads
returns-clause-heads c =
    let gln = c.args.above.now.supplier.now in
    let number = c.args.above.now.number in
    let limit = c.args.limit in
    let mail = c.args.mail.now in
    let wanted = λ (key : EntryKey) (row : MailRow). same row.supplier key.supplier && (row.number == key.number) in
    let exact = λ (x y : MailRow). both (bytes_cmp y.supplier x.supplier) (nat_cmp y.number x.number) (same_bytes y.supplier x.supplier)
    (same_numbers y.number x.number) in
    let from = λ (row : MailRow). same row.supplier gln in
    let later = λ (row : MailRow). nat_lt number row.number in
    let late_key = λ (key : EntryKey). nat_lt number key.number in
    let listed = λ (row : MailRow). later row && is_untaken row in
    let ours = filter from mail in
    let rows = filter listed ours in
    let keys =
    c.rows_at-keys.ensures
    ∙ filter_both (λ (key : EntryKey). same key.supplier gln) late_key c.args.untaken.now
    ∙ ap (filter late_key) (c.requires.untaken.each gln)
    ∙ filter_of_map late_key entry_key (filter is_untaken ours)
    ∙ ap (map entry_key) (filter_swap later is_untaken ours ∙ sym (filter_both later is_untaken ours)) in
    let least : c.min.result ≡ min limit (length c.rows_at-keys.result.now) = search rules in
    let asked =
    ap (λ n. take n c.rows_at-keys.result.now) least
    ∙ take_min limit c.rows_at-keys.result.now
    ∙ ap (take limit) keys
    ∙ take_of_map entry_key limit rows in
    let all = all_taken (Again mail_total entry_key wanted exact mail) limit rows
    (all_filter (Again mail_total entry_key wanted exact mail) listed ours
    (all_filter (Again mail_total entry_key wanted exact mail) from mail
    (all_again mail_total entry_key wanted exact mail c.requires.mail))) in
    let again = found_again mail_total entry_key wanted exact mail (take limit rows) all in
    subst (λ (heads : List MailHead). IfOk c.heads_at.result (λ found. found ≡ heads))
    (ap (map head_of) (ap (filter_map (λ (key : EntryKey). find (wanted key) mail)) asked ∙ again)
    ∙ sym (take_of_map head_of limit rows)) c.heads_at.ensures

-- at most as many are found as were asked for
within : {E : Type 0} (r : Result (List MailHead) E) (limit : ℕ) (heads : List MailHead) → IfOk r (λ found. found ≡ take limit heads)
    → IfOk r (λ found. length found ≤ limit)
within (Ok found) limit heads is = subst (λ rows. length rows ≤ limit) (sym is) (take_within limit heads)
within (Err fault) limit heads is = tt

pub returns-clause-limit : goal.returns-clause-limit
returns-clause-limit c = within c.heads_at.result c.args.limit _ (returns-clause-heads c)
