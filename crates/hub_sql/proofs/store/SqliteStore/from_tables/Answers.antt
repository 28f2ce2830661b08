use Rattle.std.proofs.Common.{◌≡◌, ℕ, List, [], ◌∷◌, ◌++◌, true, ap, ◌∙◌}
use Rattle.std.specs.BTreeMap.{is_at}
use Rattle.std.specs.Cmp.Lexicographic.{slice_cmp}
use Rattle.std.specs.Map.{lookup}
use Rattle.std.specs.Option.{unwrap_or}
use Rattle.std.specs.Ordering.{nat_cmp}
use Rattle.hub_sql.specs.Marks.{mark_of}
use Rattle.hub_sql.proofs.Fresh.{fresh_settles}
use Rattle.hub_sql.proofs.store.SqliteStore.from_tables.Goals as goal

pub invariant_of-result : goal.invariant_of-result
invariant_of-result g c =
    let marks = c.new-2.result in
    let begun : c.and-past.result.items ≡ (c.args.conn, true) ∷ [] =
    c.and-past.ensures ∙ ap (λ past. past ++ (c.args.conn, true) ∷ []) c.new.ensures in
    let none : (supplier : List ℕ) → mark_of marks supplier ≡ 0 =
    λ supplier. ap (λ entries. unwrap_or (lookup (is_at (slice_cmp nat_cmp supplier)) entries) 0) c.new-2.ensures.empty in
    fresh_settles g.S.Store c.args.conn c.args.register marks c.and-past.result.items begun c.requires.idle c.requires.hub
    c.requires.theirs none c.new-2.ensures.len
