use Rattle.std.proofs.Common.{◌≡◌, Some, None, cond, slice_get, option_map, ap, ◌∙◌, sym}
use Rattle.std.proofs.lemmas.Option.{slice_get-get_or, slice_get_past, MatchOption-at_none}
use Rattle.hub_tables.specs.declared.rows.LineRow.{LineRow}
use Rattle.hub_texts.proofs.NamedLines.{named_at}
use Rattle.hub_texts.proofs.articles.article_of.Goals as goal
use Rattle.hub_texts.proofs.articles.article_of.Goals.{in_default-via-in-Some+else-is_named, in_default-via-in_default}

pub returns-in-Some : goal.returns-in-Some
returns-in-Some c =
    let lines = c.args.lines.now in
    let place = c.count_before.result in
    let row = c.in-Some.row.now in
    let at : slice_get lines place ≡ Some row =
    slice_get-get_or lines place row c.in-Some.ensures.lookup.3.0 ∙ ap Some (sym c.in-Some.ensures.lookup.1) in
    sym (ap (option_map (λ (row : LineRow). row.gtin)) (named_at lines c.args.content.now place c.requires
    c.count_before.ensures (Some row) at
    ∙ ap (λ v. cond v (Some row) None) (sym c.is_named.ensures ∙ c.if-is_named.true)))

pub returns-in_default : goal.returns-in_default
returns-in_default c =
    let lines = c.args.lines.now in
    let place = c.count_before.result in
    elim c.in_default.branch [
      | in_default-via-in-Some+else-is_named w ↦
          let row = w.in-Some.row.now in
          let at : slice_get lines place ≡ Some row =
          slice_get-get_or lines place row w.in-Some.ensures.lookup.3.0 ∙ ap Some (sym w.in-Some.ensures.lookup.1) in
          sym (ap (option_map (λ (row : LineRow). row.gtin)) (named_at lines c.args.content.now place c.requires
          c.count_before.ensures (Some row) at
          ∙ ap (λ v. cond v (Some row) None) (sym w.is_named.ensures ∙ w.if-is_named.false)))
      | in_default-via-in_default w ↦
          sym (ap (option_map (λ (row : LineRow). row.gtin)) (named_at lines c.args.content.now place c.requires c.count_before.ensures None
          (slice_get_past lines place (MatchOption-at_none _ _ w.in_default.is c.get.ensures.lookup.3))))
    ]
