use Rattle.spf_ast.specs.declared.outcome.Trap.{Trap}
use Rattle.spf_chain.specs.declared.block.Settled.{Settled}
use Rattle.spf_chain.specs.declared.block.Settled.TheVariants.{Carried, Trapped}
use Rattle.spf_chain.specs.declared.validation.Validation.{Validation}
use Rattle.std.proofs.Common.{◌≡◌, ◌∙◌, ap, sym, List, ℤ, arith, length, refl}
use Rattle.std.proofs.lemmas.List.{length-set}
use Rattle.std.proofs.lemmas.Option.{slice_get_read}
use Rattle.spf_chain.proofs.Steps.{one-more-at, is-home, home-below, past-none, grows-more, grows-none}
use Rattle.spf_chain.proofs.validation.Validation.advance.Goals as goal

not-carried : (s : Settled) (v : List ℤ) (t : Trap) → s ≡ Carried v → s ≡ Trapped t → ⊥
not-carried s v t c d = let e : Carried v ≡ Trapped t = sym c ∙ d in absurd cc

pub loop-block-init : goal.loop-block-init
loop-block-init c = record {
  stands = λ e guess cells h are stands. stands;
  count = refl;
  size = c.requires.size;
  trapped = λ t is. refl;
  stays = λ same. refl;
  grown = grows-none _ _;
}

pub loop-block-preserved : goal.loop-block-preserved
loop-block-preserved c =
    let i = c.loop-block.block in
    let x = c.loop-block.self in
    let inv = c.loop-block.invariant in
    record {
      stands = λ e guess cells h are begun.
          let s = inv.stands e guess cells h are begun in record {
            blocks = s.blocks;
            stands = one-more-at c.prefixes_grow.ensures.grow c.prefixes_grow.ensures.end e guess cells c.args.homes.now x.blocks.items x.count i x.settled c.in-Some.result c.in-Carried.real c.in-Carried.real c.index_mut.result.now c.index-homes-block.result
                h are s.blocks inv.size s.stands inv.count c.in-Carried.is refl c.loop-block-test.true c.index-homes-block.is c.in-Some.ensures;
            home = home-below c.args.homes.now x.count i inv.count s.home (is-home c.args.homes.now i _ c.in-Some.result c.index-homes-block.result c.loop-block-test.true c.index-homes-block.is c.in-Some.ensures);
          };
      count = refl;
      size = length-set x.blocks.items i _ ∙ inv.size;
      trapped = λ t is. absurd (not-carried x.settled c.in-Carried.real t c.in-Carried.is (ap (λ (y : Validation). y.settled) (inv.trapped t is) ∙ is));
      stays = λ again. let f = inv.grown.further in absurd (omega (arith, again, f, inv.count));
      grown = grows-more _ _ x.count i x.blocks.items c.index_mut.result.now c.in-Carried.real inv.grown inv.count
          (slice_get_read x.blocks.items (length x.blocks.items) i c.index_mut.result.now refl (omega (arith, c.loop-block-test.true, inv.size)) c.index_mut.ensures.value);
    }

pub returns-clause-done : goal.returns-clause-done
returns-clause-done c = λ v is. past-none c.args.homes.now c.loop-block.self.count v (omega (arith, c.loop-block-test.false, c.loop-block.invariant.count))
