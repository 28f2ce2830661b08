use Rattle.std.proofs.Common.{inl, inr, sym, ◌∙◌, arith}
use Rattle.std.proofs.lemmas.Bool.{true≢false}
use Rattle.hub_tables.specs.Rows.{same}
use Rattle.hub_tables.specs.Tables.{view}
use Rattle.hub_rules.proofs.Rising.{view_rises}
use Rattle.hub_acts.proofs.HubClean.CleanRows.{clean_rows, clean_view}
use Rattle.hub_transactions.proofs.SoundLines.{steps_if_rise}
use Rattle.hub_transactions.proofs.SoundPallets.{all_named_of, pieces_fit}
use Rattle.hub_transactions.proofs.laws.lines_of_sound_tables_are_known.Goals as goal

pub returns-clause-order : goal.returns-clause-order
returns-clause-order c suppliers gln order t sound unclean =
    elim unclean [
      | inl e ↦ true≢false (sym (c.judges_are_given_what_they_ask.ensures.steps suppliers gln t (λ line. same line.number order) sound) ∙ e)
      | inr e ↦
          true≢false (sym (c.judges_are_given_what_they_ask.ensures.rows_covered suppliers gln t
          (λ line. same line.number order) sound) ∙ e)
    ]

pub returns-clause-named : goal.returns-clause-named
returns-clause-named c suppliers gln t units sound unclean =
    returns-clause-order c suppliers gln unclean.order t sound unclean.lines

pub returns-clause-message : goal.returns-clause-message
returns-clause-message c suppliers gln t message sound unclean =
    elim unclean [
      | inl e ↦ returns-clause-order c suppliers gln e.response.order t sound e.lines
      | inr e ↦ returns-clause-named c suppliers gln t e.despatch.units sound e.lines
    ]

pub returns-clause-status : goal.returns-clause-status
returns-clause-status c suppliers gln t sound clean unclean =
    let state = view gln t in
    let rise = c.status_is_given_what_it_asks.ensures.rise suppliers gln t sound in
    let kept = sound.kept gln in
    let fine = clean_view gln t (clean_rows t clean) in
    elim unclean [
      | inl e ↦ absurd (true≢false (sym (steps_if_rise state.lines rise) ∙ e))
      | inr e ↦ elim e.unclean [
        | inl none ↦ absurd (true≢false (sym none ∙ all_named_of state e.pallet.sscc kept.content_lines))
        | inr past ↦ elim past [
          | inl contents ↦ let few = pieces_fit state e.pallet.sscc (view_rises gln t sound.rooted.ordered kept).contents fine.contents in
              absurd (omega (arith, few, contents))
          | inr receipts ↦ record { pallet = e.pallet; there = e.there; past = receipts }
        ]
      ]
    ]
