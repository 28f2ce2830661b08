use Rattle.std.proofs.Common.{◌≡◌, inl, inr, length, ap, refl, sym, subst, ◌∙◌}
use Rattle.hub_rules.specs.Laws.{SoundHub}
use Rattle.sqlite.specs.Schema.{Schema}
use Rattle.hub_schema.specs.Schema.{no_schema, old_schema}
use Rattle.hub_tables.specs.Register.{HoldsRegister}
use Rattle.hub_tables.specs.Tables.{empty}
use Rattle.hub_sql.proofs.Sparing.{spared_more}
use Rattle.hub_sql.proofs.founding.found_bare.Goals as goal

no_tables : no_schema ≡ old_schema → ⊥
no_tables same = let none : 0 ≡ length old_schema.tables = ap (λ (s : Schema). length s.tables) same in cc

pub returns-in-Ok-clause-founds : goal.returns-in-Ok-clause-founds
returns-in-Ok-clause-founds g c = record {
  before = empty;
  whole = c.in-Ok.ensures.holds.whole;
  stood = λ honest. inl (c.requires.bare, refl);
  fit = λ honest. refl;
  rows = c.in-Ok.ensures.holds.rows_are;
  holds = λ honest. subst HoldsRegister (sym (c.in-Ok.ensures.holds.rows_are honest))
      (c.founded_tables_hold_their_register.ensures.holds c.args.register.now c.in-Ok.ensures.register);
  sound = λ honest suppliers start. subst SoundHub (sym (c.in-Ok.ensures.holds.rows_are honest))
      (c.migrated_tables_are_sound.ensures c.args.register.now suppliers empty c.in-Ok.ensures.register refl refl refl start refl);
  crash = c.in-Ok.ensures.holds.crash;
  clean = c.in-Ok.ensures.holds.clean;
}

pub returns-in-Err-clause-refuses : goal.returns-in-Err-clause-refuses
returns-in-Err-clause-refuses g c =
    let bare = c.requires.bare in
    record {
      version = λ is. absurd (elim c.in-Err.ensures.fails [ inl memory ↦ cc | inr disk ↦ cc ]);
      other = λ tables. absurd (tables bare);
      number = λ none. absurd (none empty (inl (bare, refl)));
      rows = λ is. absurd cc;
      unfit = λ first. absurd (no_tables (sym bare ∙ first.0));
      usable = λ why is. tt;
      unclean = λ is. elim c.in-Err.ensures.fails [ inl memory ↦ cc | inr disk ↦ cc ];
      spared = spared_more g.S.Store _ _ _ c.in-Err.conn (λ never. absurd never) (λ trees made. (empty, inl (bare, refl), made))
          c.in-Err.ensures.spared;
    }
