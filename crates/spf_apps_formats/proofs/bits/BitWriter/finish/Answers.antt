use Rattle.std.proofs.Common.{◌++◌, ◌∷◌, [], ◌∙◌, ap, subst, sym, arith}
use Rattle.spf_apps_formats.specs.Huf1.{Holds}
use Rattle.spf_apps_formats.specs.Written.{written}
use Rattle.spf_apps_formats.proofs.BitStrings.{padded, unpadded, fits_byte, moved_whole}
use Rattle.spf_apps_formats.proofs.bits.BitWriter.finish.Goals as goal
use Rattle.spf_apps_formats.proofs.bits.BitWriter.finish.Goals.{then-self-gt0+in_ok-push, else-self-gt0}

pub overflow_cast-self : goal.overflow_cast-self
overflow_cast-self c =
    let below = fits_byte c.args.self.count c.args.self.partial c.args.self.begun c.args.self.fits in
    let same = moved_whole c.args.self.count c.args.self.partial c.args.self.begun c.args.self.fits in
    omega (arith, below, same)

pub returns : goal.returns
returns c =
    let whole = moved_whole c.args.self.count c.args.self.partial c.args.self.begun c.args.self.fits in
    elim c.if-self-gt0.branch [
      | then-self-gt0+in_ok-push w ↦ subst (λ b. Holds (written c.args.self) b.items) (sym w.bytes-is) (padded c.args.self.bytes.items w.push.new.self.items c.args.self.count c.args.self.partial w.if-self-gt0.true c.args.self.begun (w.in_ok-push.ensures.items ∙ ap (λ n. c.args.self.bytes.items ++ n ∷ []) whole))
      | else-self-gt0 w ↦ subst (λ b. Holds (written c.args.self) b.items) (sym w.bytes-is) (unpadded c.args.self.bytes.items c.args.self.count c.args.self.partial (omega (arith, w.if-self-gt0.false)))
    ]
