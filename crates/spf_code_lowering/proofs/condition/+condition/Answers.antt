use Rattle.std.proofs.Common.{◌<◌, sym, ap, subst, refl}
use Rattle.spf_ast.specs.View.{condition}
use Rattle.spf_ast.specs.Syntax.{Both, Either, Not}
use Rattle.spf_code.specs.declared.node.Node.TheVariants as v
use Rattle.spf_code.specs.Code.{stop, Branch}
use Rattle.spf_code_lowering.specs.Flat.{nodes_set, Flattens}
use Rattle.spf_code_lowering.proofs.Flat.{flat-none}
use Rattle.spf_code_lowering.proofs.Lowering.{finish, mapped, branched}
use Rattle.spf_code_lowering.specs.Lowering.{callees_in, ToldIn}
use Rattle.spf_code_lowering.proofs.Same.{flat-of}
use Rattle.spf_code_lowering.proofs.Telling.{negation_told, both_told, either_told}
use Rattle.spf_code_lowering.proofs.Spared.{fewer, both-spared, finished, less-differs, none-set}
use Rattle.spf_code_lowering.proofs.condition.+condition.Goals as goal

pub tell-returns-in_ok-then-in-Both-clause-wrote : goal.tell-returns-in_ok-then-in-Both-clause-wrote
tell-returns-in_ok-then-in-Both-clause-wrote t c = λ calls.
    let s = c.args.scope.now in
    let a = condition c.deref-in-Both.result.now in
    let b = condition c.deref-in-Both-2.result.now in
    let n = c.in_ok-then-in-Both.then in
    let told = c.in_ok-then-in-Both.ensures.told calls in
    rw (c.in-Both.is, ← c.deref-in-Both.ensures, ← c.deref-in-Both-2.ensures)
    (branched c.add_choice.result _ (Branch c.args.free told.made stop) (ToldIn s calls c.args.line c.args.free (Both a b)) (c.in_ok-tell-in-Both.ensures.wrote calls)
    (c.add_choice.ensures.wrote told.made stop (flat-of n.items (ToldIn s calls c.args.line c.args.free b) told) (subst (λ l. Flattens l stop) (sym c.new.ensures.items) flat-none))
    (λ made p. both_told (callees_in s) calls c.args.line s.own c.args.free a b made told.made p told.asked))

pub tell-returns-in_ok-otherwise-in-Either-clause-wrote : goal.tell-returns-in_ok-otherwise-in-Either-clause-wrote
tell-returns-in_ok-otherwise-in-Either-clause-wrote t c = λ calls.
    let s = c.args.scope.now in
    let a = condition c.deref-in-Either.result.now in
    let b = condition c.deref-in-Either-2.result.now in
    let n = c.in_ok-otherwise-in-Either.otherwise in
    let told = c.in_ok-otherwise-in-Either.ensures.told calls in
    rw (c.in-Either.is, ← c.deref-in-Either.ensures, ← c.deref-in-Either-2.ensures)
    (branched c.add_choice-in-Either.result _ (Branch c.args.free stop told.made) (ToldIn s calls c.args.line c.args.free (Either a b)) (c.in_ok-tell-in-Either.ensures.wrote calls)
    (c.add_choice-in-Either.ensures.wrote stop told.made (subst (λ l. Flattens l stop) (sym c.new-in-Either.ensures.items) flat-none) (flat-of n.items (ToldIn s calls c.args.line c.args.free b) told))
    (λ made p. either_told (callees_in s) calls c.args.line s.own c.args.free a b made told.made p told.asked))

pub tell-returns-in_ok-tell-in-Not-clause-wrote : goal.tell-returns-in_ok-tell-in-Not-clause-wrote
tell-returns-in_ok-tell-in-Not-clause-wrote t c = λ calls.
    let s = c.args.scope.now in
    let a = condition c.deref-in-Not.result.now in
    rw (c.in-Not.is, ← c.deref-in-Not.ensures)
    (finish c.add.result _ _ _ (v.Not c.args.free c.args.free) (ToldIn s calls c.args.line c.args.free a) (ToldIn s calls c.args.line c.args.free (Not a)) refl (c.in_ok-tell-in-Not.ensures.wrote calls) c.add.ensures.appended
    (λ made p. negation_told (callees_in s) calls c.args.line s.own c.args.free a made p))

pub code_telling-returns-clause-told : goal.code_telling-returns-clause-told
code_telling-returns-clause-told t c = λ calls. rw c.new-made.ensures.items at c.in_ok-tell.ensures.wrote calls

pub tell-returns-in_ok-then-in-Both-clause-spares : goal.tell-returns-in_ok-then-in-Both-clause-spares
tell-returns-in_ok-then-in-Both-clause-spares t c =
    mapped c.add_choice.result c.add_choice.ensures.spares (λ u w. both-spared c.in_ok-tell-in-Both.ensures.spares
    (fewer (λ r. r < c.args.free) w (λ r l. (c.in_ok-then-in-Both.ensures.spares r l, ap (nodes_set r) c.new.ensures.items))))

pub tell-returns-in_ok-otherwise-in-Either-clause-spares : goal.tell-returns-in_ok-otherwise-in-Either-clause-spares
tell-returns-in_ok-otherwise-in-Either-clause-spares t c =
    mapped c.add_choice-in-Either.result c.add_choice-in-Either.ensures.spares (λ u w. both-spared c.in_ok-tell-in-Either.ensures.spares
    (fewer (λ r. r < c.args.free) w (λ r l. (ap (nodes_set r) c.new-in-Either.ensures.items, c.in_ok-otherwise-in-Either.ensures.spares r l))))

pub tell-returns-in_ok-tell-in-Not-clause-spares : goal.tell-returns-in_ok-tell-in-Not-clause-spares
tell-returns-in_ok-tell-in-Not-clause-spares t c =
    finished c.add.result _ _ _ (v.Not c.args.free c.args.free) refl c.in_ok-tell-in-Not.ensures.spares c.add.ensures.appended (λ r l. less-differs r c.args.free l)

pub code_telling-returns-clause-spares : goal.code_telling-returns-clause-spares
code_telling-returns-clause-spares t c = λ r l. none-set (rw c.new-made.ensures.items at c.in_ok-tell.ensures.spares) r l
