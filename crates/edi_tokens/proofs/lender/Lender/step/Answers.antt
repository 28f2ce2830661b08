use Rattle.std.proofs.Common.{◌≡◌, ◌⊎◌, ℕ, [], length, Bool, false, Result, Ok, sym, ap, subst, ◌∙◌, arith}
use Rattle.edi_segments.specs.declared.fault.TokenFault.{TokenFault}
use Rattle.std.specs.Io.KnownBytes.{IsAtEnd}
use Rattle.std.proofs.lemmas.Result.{err_from_is_err_and}
use Rattle.edi_segments.specs.Machine.{reading_of}
use Rattle.edi_tokens.specs.Lender.{AtEnd, Came, Fed, Took, FitsSome, TellsRefill, FillsSome, TakesOf}
use Rattle.edi_tokens.proofs.Lending.{takes_then, has_cause, finish_text}
use Rattle.edi_tokens.proofs.lender.Lender.step.Given as given
use Rattle.edi_tokens.proofs.lender.Lender.step.Goals as goal
use Rattle.edi_tokens.proofs.lender.Lender.step.Goals.{After-refill, In_ok-refill}

abbrev said : Bool → Result Bool TokenFault
said b = Ok b

-- all that was read is taken, and then bytes were read
taken_all : (g : given.Over) (c : After-refill g) (all : _) (lent : _)
    → Fed (g.R.Source.remaining c.args.reader.now) all lent c.args.self.now
    → Fed (g.R.Source.remaining c.loop-self.reader) all lent c.take_piece.new.self
taken_all g c all lent fed =
    subst (λ (b : Bool). Took (g.R.Source.remaining c.loop-self.reader) all lent (Ok b) c.take_piece.new.self) c.if-branch.false
    (c.in_ok-take_piece.ensures.told _ all lent (c.loop-self.invariant.told all lent fed))

bound : (g : given.Over) (c : After-refill g)
    → TakesOf (g.R.Source.remaining c.args.reader.now)
    (g.R.Source.remaining c.refill.new.reader) c.args.self.now.room c.refill.new.self.room
bound g c =
    takes_then _ _ _ _ _ _ c.loop-self.invariant.bound (rw c.in_ok-take_piece.ensures.room at c.refill.ensures.bound)

ends : (g : given.Over) (c : After-refill g)
    → AtEnd (g.R.Source.remaining c.args.reader.now) c.args.self.now
    → AtEnd (g.R.Source.remaining c.refill.new.reader) c.refill.new.self
ends g c old = c.refill.ensures.ends (λ is.
    subst (λ (room : ℕ). IsAtEnd (g.R.Source.remaining c.loop-self.reader) ⊎ (room ≡ 0)) (sym c.in_ok-take_piece.ensures.room)
    (c.loop-self.invariant.ends old (sym c.in_ok-take_piece.ensures.ended ∙ is)))

flag : (g : given.Over) (c : In_ok-refill g) → g.R.Source.failed c.refill.new.reader ≡ g.R.Source.failed c.args.reader.now
flag g c = c.in_ok-refill.ensures.flag ∙ c.loop-self.invariant.flag

-- the text ends here
ended : (g : given.Over) (c : In_ok-refill g) (all : _) (lent : _) → c.in_ok-refill.field-0 ≡ false
    → Fed (g.R.Source.remaining c.args.reader.now) all lent c.args.self.now
    → TellsRefill (g.R.Source.remaining c.refill.new.reader) all lent (Ok false) c.refill.new.self
ended g c all lent none fed =
    subst (λ (b : Bool). TellsRefill (g.R.Source.remaining c.refill.new.reader) all lent (Ok b) c.refill.new.self) none
    (c.in_ok-refill.ensures.told all lent
    (subst (λ (b : Bool). Took (g.R.Source.remaining c.loop-self.reader) all lent (Ok b) c.take_piece.new.self) c.if-branch.false
    (c.in_ok-take_piece.ensures.told _ all lent (c.loop-self.invariant.told all lent fed))))

pub returns-in_err-take_piece-clause-told : goal.returns-in_err-take_piece-clause-told
returns-in_err-take_piece-clause-told g c = λ all lent fed.
    let p = err_from_is_err_and c.from_residual.result c.from_residual.ensures.1 in
    rw (p.1, p.2) (λ _. c.in_err-take_piece.ensures.told _ all lent (c.loop-self.invariant.told all lent fed))

pub returns-in_err-refill-clause-told : goal.returns-in_err-refill-clause-told
returns-in_err-refill-clause-told g c = λ all lent fed.
    let p = err_from_is_err_and c.from_residual-in_err-refill.result c.from_residual-in_err-refill.ensures.1 in
    rw (p.1, p.2) (c.in_err-refill.ensures.told all lent
    (taken_all g (goal.at.returns-in_err-refill-clause-told g c).After-refill all lent fed))

pub returns-in_err-refill-clause-bound : goal.returns-in_err-refill-clause-bound
returns-in_err-refill-clause-bound g c = bound g (goal.at.returns-in_err-refill-clause-bound g c).After-refill

pub returns-in_err-finish-clause-told : goal.returns-in_err-finish-clause-told
returns-in_err-finish-clause-told g c = λ all lent fed.
    let p = err_from_is_err_and c.from_residual-in_err-finish.result c.from_residual-in_err-finish.ensures.1 in
    rw (p.1, p.2) (λ _.
    (ended g (goal.at.returns-in_err-finish-clause-told g c).In_ok-refill all lent c.if-not-branch.true fed).1
    ∙ c.in_err-finish.ensures lent)

pub returns-in_err-finish-clause-flag : goal.returns-in_err-finish-clause-flag
returns-in_err-finish-clause-flag g c =
    let p = err_from_is_err_and c.from_residual-in_err-finish.result c.from_residual-in_err-finish.ensures.1 in
    rw (p.1, p.2)
    (has_cause c.in_err-finish.field-0.0 _ _
    (finish_text (reading_of [] c.refill.new.self.machine) c.in_err-finish.field-0.0 (c.in_err-finish.ensures []))
    (flag g (goal.at.returns-in_err-finish-clause-flag g c).In_ok-refill))

pub returns-in_err-finish-clause-bound : goal.returns-in_err-finish-clause-bound
returns-in_err-finish-clause-bound g c = bound g (goal.at.returns-in_err-finish-clause-bound g c).After-refill

pub returns-then-not-branch-clause-told : goal.returns-then-not-branch-clause-told
returns-then-not-branch-clause-told g c = λ all lent fed.
    let end = ended g (goal.at.returns-then-not-branch-clause-told g c).In_ok-refill all lent c.if-not-branch.true fed in
    (end.0, end.1 ∙ c.in_ok-finish.ensures lent)

pub returns-then-not-branch-clause-bound : goal.returns-then-not-branch-clause-bound
returns-then-not-branch-clause-bound g c = bound g (goal.at.returns-then-not-branch-clause-bound g c).After-refill

pub loop-self-preserved : goal.loop-self-preserved
loop-self-preserved g c = record {
  told = λ all lent fed.
      subst (λ (b : Bool). TellsRefill (g.R.Source.remaining c.refill.new.reader) all lent (Ok b) c.refill.new.self) c.if-not-branch.false
      (c.in_ok-refill.ensures.told all lent (taken_all g (goal.at.loop-self-preserved g c).After-refill all lent fed));
  some = λ lent came.
      subst (λ (b : Bool). FillsSome lent (Ok b) c.refill.new.self) c.if-not-branch.false
      (c.in_ok-refill.ensures.some lent
      (subst (λ (b : Bool). FitsSome lent (Ok b) c.take_piece.new.self) c.if-branch.false
      (c.in_ok-take_piece.ensures.some lent (c.loop-self.invariant.some lent came))));
  origin = c.refill.ensures.origin ∙ c.loop-self.invariant.origin;
  flag = flag g (goal.at.loop-self-preserved g c).In_ok-refill;
  bound = bound g (goal.at.loop-self-preserved g c).After-refill;
  ends = ends g (goal.at.loop-self-preserved g c).After-refill;
  unread = omega (
    arith,
    c.in_ok-refill.ensures.unread (ap said c.if-not-branch.false),
    ap length (c.in_ok-take_piece.ensures.empty (ap said c.if-branch.false)),
    c.in_ok-take_piece.ensures.room,
    c.loop-self.invariant.unread,
  );
  going = c.in_ok-refill.ensures.going;
}

pub returns-in_err-take_piece-clause-some : goal.returns-in_err-take_piece-clause-some
returns-in_err-take_piece-clause-some g c = λ lent came.
    let p = err_from_is_err_and c.from_residual.result c.from_residual.ensures.1 in
    rw (p.1, p.2) (c.in_err-take_piece.ensures.some lent (c.loop-self.invariant.some lent came))

-- all that was read of some text is taken
some_taken : (g : given.Over) (c : After-refill g) (lent : _) → Came lent c.args.self.now → Came lent c.take_piece.new.self
some_taken g c lent came =
    subst (λ (b : Bool). FitsSome lent (Ok b) c.take_piece.new.self) c.if-branch.false
    (c.in_ok-take_piece.ensures.some lent (c.loop-self.invariant.some lent came))

some_ended : (g : given.Over) (c : In_ok-refill g) (lent : _) → c.in_ok-refill.field-0 ≡ false → Came lent c.args.self.now
    → FillsSome lent (Ok false) c.refill.new.self
some_ended g c lent none came =
    subst (λ (b : Bool). FillsSome lent (Ok b) c.refill.new.self) none
    (c.in_ok-refill.ensures.some lent
    (subst (λ (b : Bool). FitsSome lent (Ok b) c.take_piece.new.self) c.if-branch.false
    (c.in_ok-take_piece.ensures.some lent (c.loop-self.invariant.some lent came))))

pub returns-in_err-refill-clause-some : goal.returns-in_err-refill-clause-some
returns-in_err-refill-clause-some g c = λ lent came.
    let p = err_from_is_err_and c.from_residual-in_err-refill.result c.from_residual-in_err-refill.ensures.1 in
    rw (p.1, p.2) (c.in_err-refill.ensures.some lent
    (some_taken g (goal.at.returns-in_err-refill-clause-some g c).After-refill lent came))

pub returns-in_err-finish-clause-some : goal.returns-in_err-finish-clause-some
returns-in_err-finish-clause-some g c = λ lent came.
    let p = err_from_is_err_and c.from_residual-in_err-finish.result c.from_residual-in_err-finish.ensures.1 in
    let end = some_ended g (goal.at.returns-in_err-finish-clause-some g c).In_ok-refill lent c.if-not-branch.true came in
    rw (p.1, p.2) (λ _. (end.1.0, end.1.1 ∙ c.in_err-finish.ensures lent))

pub returns-then-not-branch-clause-some : goal.returns-then-not-branch-clause-some
returns-then-not-branch-clause-some g c = λ lent came.
    let end = some_ended g (goal.at.returns-then-not-branch-clause-some g c).In_ok-refill lent c.if-not-branch.true came in
    (end.0, (end.1.0, end.1.1 ∙ c.in_ok-finish.ensures lent))

-- the lender has a segment
pub returns-then-branch-clause-told : goal.returns-then-branch-clause-told
returns-then-branch-clause-told g c = λ all lent fed.
    subst (λ (b : Bool). Took (g.R.Source.remaining c.loop-self.reader) all lent (Ok b) c.take_piece.new.self) c.if-branch.true
    (c.in_ok-take_piece.ensures.told _ all lent (c.loop-self.invariant.told all lent fed))

pub returns-then-branch-clause-some : goal.returns-then-branch-clause-some
returns-then-branch-clause-some g c = λ lent came.
    subst (λ (b : Bool). FitsSome lent (Ok b) c.take_piece.new.self) c.if-branch.true
    (c.in_ok-take_piece.ensures.some lent (c.loop-self.invariant.some lent came))

pub returns-then-branch-clause-fewer : goal.returns-then-branch-clause-fewer
returns-then-branch-clause-fewer g c = λ _.
    omega (
      arith,
      c.in_ok-take_piece.ensures.fewer (ap said c.if-branch.true),
      c.in_ok-take_piece.ensures.room,
      c.loop-self.invariant.unread,
    )

pub returns-then-branch-clause-bound : goal.returns-then-branch-clause-bound
returns-then-branch-clause-bound g c = rw c.in_ok-take_piece.ensures.room c.loop-self.invariant.bound

pub returns-then-branch-clause-ends : goal.returns-then-branch-clause-ends
returns-then-branch-clause-ends g c = λ old is.
    subst (λ (room : ℕ). IsAtEnd (g.R.Source.remaining c.loop-self.reader) ⊎ (room ≡ 0)) (sym c.in_ok-take_piece.ensures.room)
    (c.loop-self.invariant.ends old (sym c.in_ok-take_piece.ensures.ended ∙ is))

pub returns-in_err-refill-clause-ends : goal.returns-in_err-refill-clause-ends
returns-in_err-refill-clause-ends g c = ends g (goal.at.returns-in_err-refill-clause-ends g c).After-refill

pub returns-in_err-finish-clause-ends : goal.returns-in_err-finish-clause-ends
returns-in_err-finish-clause-ends g c = ends g (goal.at.returns-in_err-finish-clause-ends g c).After-refill

pub returns-then-not-branch-clause-ends : goal.returns-then-not-branch-clause-ends
returns-then-not-branch-clause-ends g c = ends g (goal.at.returns-then-not-branch-clause-ends g c).After-refill
