use Rattle.std.proofs.Common.{rules, ◌≡◌, ◌<◌, ◌-◌, inl, inr, arith}
use Rattle.edi_tokens.specs.declared.lender.Tail.TheVariants.{More}
use Rattle.edi_tokens.proofs.Lending.{filled_end, filled_long, filled_more, some_end, some_long, some_more, may_read}
use Rattle.edi_tokens.proofs.Lending.{within_end, within_more, some_within_end, some_within_last, some_within_more}
use Rattle.edi_tokens.proofs.lender.Lender.read.Goals as goal

pub returns-then-count-eq0-clause-told : goal.returns-then-count-eq0-clause-told
returns-then-count-eq0-clause-told g c = λ all lent fed.
    elim (may_read c.args.self.now.tail c.requires.tail) [
      | inl more ↦
          filled_end (g.R.Source.remaining c.args.reader.now) all lent c.args.self.now fed c.requires.piece more
          (g.R.Source.remaining c.fill.new.reader) c.fill.new.self c.in-Ok.count c.in-Ok.ensures.bytes c.if-count-eq0.true
      | inr within ↦
          within_end (g.R.Source.remaining c.args.reader.now) all lent c.args.self.now fed c.requires.piece within
          (g.R.Source.remaining c.fill.new.reader) c.fill.new.self c.in-Ok.count c.in-Ok.ensures.bytes c.if-count-eq0.true
    ]

pub returns-then-count-eq0-clause-some : goal.returns-then-count-eq0-clause-some
returns-then-count-eq0-clause-some g c = λ lent came.
    elim (may_read c.args.self.now.tail c.requires.tail) [
      | inl more ↦
          some_end lent c.args.self.now came c.requires.piece _ _ c.fill.new.self c.in-Ok.count c.in-Ok.ensures.bytes more
          c.if-count-eq0.true
      | inr within ↦
          some_within_end lent c.args.self.now came c.requires.piece _ _ c.fill.new.self c.in-Ok.count c.in-Ok.ensures.bytes within
          c.if-count-eq0.true
    ]

pub returns-then-self-gt0-clause-told : goal.returns-then-self-gt0-clause-told
returns-then-self-gt0-clause-told g c = λ all lent fed.
    let room : 0 < c.args.self.now.room - c.in-Ok.count = omega (arith, c.if-self-gt0.true) in
    elim (may_read c.args.self.now.tail c.requires.tail) [
      | inl more ↦
          filled_more (g.R.Source.remaining c.args.reader.now) all lent c.args.self.now fed c.requires.piece more
          (g.R.Source.remaining c.fill.new.reader) c.fill.new.self c.in-Ok.count c.in-Ok.ensures.bytes room
      | inr within ↦
          within_more (g.R.Source.remaining c.args.reader.now) all lent c.args.self.now fed c.requires.piece within
          (g.R.Source.remaining c.fill.new.reader) c.fill.new.self c.in-Ok.count c.in-Ok.ensures.bytes room
    ]

pub returns-then-self-gt0-clause-some : goal.returns-then-self-gt0-clause-some
returns-then-self-gt0-clause-some g c = λ lent came.
    let room : 0 < c.args.self.now.room - c.in-Ok.count = omega (arith, c.if-self-gt0.true) in
    elim (may_read c.args.self.now.tail c.requires.tail) [
      | inl more ↦
          some_more lent c.args.self.now came c.requires.piece _ _ c.fill.new.self c.in-Ok.count c.in-Ok.ensures.bytes more room
      | inr within ↦
          some_within_more lent c.args.self.now came c.requires.piece _ _ c.fill.new.self c.in-Ok.count c.in-Ok.ensures.bytes
          within room
    ]

pub returns-in-Within-clause-some : goal.returns-in-Within-clause-some
returns-in-Within-clause-some g c = λ lent came.
    some_within_last lent c.args.self.now came c.requires.piece _ _ c.fill.new.self c.in-Ok.count c.in-Ok.ensures.bytes c.in-Within.is
    (omega (arith, c.if-self-gt0.false))

pub returns-in_default-tail : goal.returns-in_default-tail
returns-in_default-tail g c =
    let more : c.args.self.now.tail ≡ More =
    elim (may_read c.args.self.now.tail c.requires.tail) [
      | inl more ↦ more
      | inr within ↦ absurd (c.in_default-tail.not-Within within)
    ] in
    let some : 0 < c.in-Ok.count = omega (arith, c.if-count-eq0.false) in
    let no_room : c.args.self.now.room - c.in-Ok.count ≡ 0 = omega (arith, c.if-self-gt0.false) in
    record {
      told = λ all lent fed.
          filled_long (g.R.Source.remaining c.args.reader.now) all lent c.args.self.now fed c.requires.piece more
          (g.R.Source.remaining c.fill.new.reader) c.fill.new.self c.in-Ok.count c.in-Ok.ensures.bytes c.drop_last.new.self
          c.drop_last.ensures some no_room;
      some = λ lent came.
          some_long lent c.args.self.now came c.requires.piece _ _ c.fill.new.self c.in-Ok.count c.in-Ok.ensures.bytes more
          c.drop_last.new.self c.drop_last.ensures some no_room;
      flag = search rules;
      origin = search rules;
      bound = search rules;
      ends = search rules;
      fewer = search rules;
      unread = search rules;
      going = search rules;
    }
