use Rattle.std.proofs.Common.{ap, pos, ◌∙◌, ◌<◌, ◌^◌, arith, refl}
use Rattle.std.proofs.lemmas.Bool.Decides.{nat_tests}
use Rattle.sqlite_value.specs.declared.value.Value.TheVariants.{Int}
use Rattle.hub_writes.proofs.Contents.{add_content, cells, adds_content}
use Rattle.hub_writes.proofs.Outcomes.{executed, insert_acts}
use Rattle.hub_writes.proofs.Steps.{place_is_great, refused_before}
use Rattle.hub_writes.proofs.content.add_content.Goals as goal

pub returns-in_default-clause-acts : goal.returns-in_default-clause-acts
returns-in_default-clause-acts g c =
    refused_before _ _ (λ t _. place_is_great c.args.row.now (grind (arith, nat_tests, c.in_default.ensures.none)) t)

pub returns-clause-acts : goal.returns-clause-acts
returns-clause-acts g c =
    let row = c.args.row.now in
    let did = executed g.S.Store add_content (cells row) _ _ _ c.execute.result c.execute.ensures.ended
    c.execute.ensures.runs c.execute.ensures.survives (rw (
      c.sscc_value-sscc.ensures,
      c.value-place.ensures.value ∙ ap (λ n. Int (pos n)) c.in-Some.ensures.some,
      c.text_value-number.ensures,
      c.count_value-line.ensures,
      c.count_value-quantity.ensures,
    ) refl) in
    let low_place : c.args.row.now.place < 2 ^ 64 = omega (arith, c.value-place.ensures.low, c.in-Some.ensures.some) in
    let low_line : c.args.row.now.line < 2 ^ 64 = omega arith in
    let low_quantity : c.args.row.now.quantity < 2 ^ 64 = omega arith in
    insert_acts g.S.Store _ _ _ _ c.execute.result did _ (adds_content row (low_place, low_line, low_quantity))
    c.insert_ended.result c.insert_ended.ensures
