use Rattle.std.proofs.Common.{inl, inr, sym, ap, ◌∙◌}
use Rattle.sqlite.specs.Held.{state}
use Rattle.hub_sql.specs.declared.version.Version.TheVariants.{Second}
use Rattle.hub_sql.proofs.Adopted.{cause_passed, counted_on, held_before, held_neither}
use Rattle.hub_sql.proofs.Sparing.{spared_through}
use Rattle.hub_sql.proofs.reopening.of_hub.Goals as goal

pub returns-in-Ok-of_version-clause-holds : goal.returns-in-Ok-of_version-clause-holds
returns-in-Ok-of_version-clause-holds g c clean =
    let third = c.in-Err-default-Version in
    let second = c.in-Ok-of_version in
    held_before Second (state g.S.Store c.args.conn) (state g.S.Store third.conn) (state g.S.Store second.conn)
    (third.ensures.refuses third.field-0-1-is (second.ensures.clean clean)).1 (second.ensures.holds clean)

pub returns-in-Err-of_version-clause-refuses : goal.returns-in-Err-of_version-clause-refuses
returns-in-Err-of_version-clause-refuses g c is clean =
    let third = c.in-Err-default-Version in
    let second = c.in-Err-of_version in
    held_neither (state g.S.Store c.args.conn) (state g.S.Store third.conn) (state g.S.Store second.conn)
    (third.ensures.refuses third.field-0-1-is (second.ensures.spared.clean clean)) (second.ensures.refuses is clean)

pub returns-in-Err-of_version-clause-spared : goal.returns-in-Err-of_version-clause-spared
returns-in-Err-of_version-clause-spared g c =
    let third = c.in-Err-default-Version in
    spared_through g.S.Store (λ _. ⊥) c.args.conn third.conn c.in-Err-of_version.conn
    (λ clean. (third.ensures.refuses third.field-0-1-is clean).1) third.ensures.spared.clean third.ensures.spared.limit
    c.in-Err-of_version.ensures.spared

pub returns-in-Ok-of_version-clause-ready : goal.returns-in-Ok-of_version-clause-ready
returns-in-Ok-of_version-clause-ready g c clean ready =
    let third = c.in-Err-default-Version in
    let second = c.in-Ok-of_version in
    second.ensures.ready clean (third.ensures.stays third.field-0-1-is (second.ensures.clean clean) ready)

pub returns-in-Err-of_version-clause-disk : goal.returns-in-Err-of_version-clause-disk
returns-in-Err-of_version-clause-disk g c is clean =
    let third = c.in-Err-default-Version in
    let second = c.in-Err-of_version in
    cause_passed (state g.S.Store c.args.conn) (state g.S.Store third.conn) (state g.S.Store second.conn)
    (third.ensures.counts third.field-0-1-is (second.ensures.spared.clean clean)) (second.ensures.disk is clean)

pub returns-in-Ok-of_version-clause-counted : goal.returns-in-Ok-of_version-clause-counted
returns-in-Ok-of_version-clause-counted g c clean =
    let third = c.in-Err-default-Version in
    let second = c.in-Ok-of_version in
    counted_on (state g.S.Store c.args.conn) (state g.S.Store third.conn) (state g.S.Store second.conn)
    (third.ensures.counts third.field-0-1-is (second.ensures.clean clean)) (second.ensures.counted clean)

pub returns-in-Ok-of_version-clause-schema : goal.returns-in-Ok-of_version-clause-schema
returns-in-Ok-of_version-clause-schema g c =
    elim c.in-Err-default-Version.ensures.unread
    [ inl is ↦ is | inr same ↦ sym (ap (λ conn. conn.schema) same) ∙ c.in-Ok-of_version.ensures.schema ]

pub returns-in-Ok-of_version-clause-known : goal.returns-in-Ok-of_version-clause-known
returns-in-Ok-of_version-clause-known g c =
    elim c.in-Err-default-Version.ensures.unread
    [ inl is ↦ is | inr same ↦ sym (ap (λ conn. conn.schema) same) ∙ c.in-Ok-of_version.ensures.schema ]

pub returns-in-Err-of_version-clause-other : goal.returns-in-Err-of_version-clause-other
returns-in-Err-of_version-clause-other g c other =
    elim c.in-Err-default-Version.ensures.unread [
      | inl is ↦ absurd (other is)
      | inr same ↦ c.in-Err-of_version.ensures.other (λ is. other (sym (ap (λ conn. conn.schema) same) ∙ is))
    ]
