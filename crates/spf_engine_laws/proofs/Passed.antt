-- Constructs that a run has passed, beside those of the plain run.
use Rattle.std.proofs.Common.{ℕ, zero, suc, List, [], ◌∷◌, ◌++◌, refl, sym, subst}
use Rattle.spf_ast.specs.Syntax.{Program}
use Rattle.spf_ast.specs.Construct.{Construct, constructs_in, Reached, reals}
use Rattle.spf_speculation.specs.Alike.{RunsSeeVisibleSlots}
use Rattle.spf_guess_statistics.specs.Guess.{Hosts, Telling, tells}
use Rattle.spf_engine_laws.specs.Traces.{Trace, begin_with, AreTraces}
use Rattle.spf_engine_laws.specs.Passed.{PassedConstruct, where_blocks, passed_plainly, all_passed_from, OneByOne, PassedAlike, IsItsTrace}
use Rattle.spf_engine_laws.specs.Laws.{PassedHaveTheTraces}

-- ---- lists, one by one

-- lists one after another
pub one-by-one-append : {A B : Type 0} (Related : A → B → Type 0) (xs : List A) (ys : List B) (more : List A) (others : List B)
    → OneByOne Related xs ys → OneByOne Related more others → OneByOne Related (xs ++ more) (ys ++ others)
one-by-one-append Related [] [] more others h k = k
one-by-one-append Related [] (y ∷ ys) more others h k = elim h [ ]
one-by-one-append Related (x ∷ xs) [] more others h k = elim h [ ]
one-by-one-append Related (x ∷ xs) (y ∷ ys) more others h k = (h.0, one-by-one-append Related xs ys more others h.1 k)

-- what holds for the one holds for the other
pub one-by-one-over : {A B C : Type 0} (Related : A → B → Type 0) (Of : A → C → Type 0) (Other : B → C → Type 0) → ((a : A) (b : B) (c : C) → Related a b → Of a c → Other b c)
    → (xs : List A) (ys : List B) (zs : List C) → OneByOne Related xs ys → OneByOne Of xs zs → OneByOne Other ys zs
one-by-one-over Related Of Other f [] [] [] h k = tt
one-by-one-over Related Of Other f [] [] (z ∷ zs) h k = elim k [ ]
one-by-one-over Related Of Other f [] (y ∷ ys) zs h k = elim h [ ]
one-by-one-over Related Of Other f (x ∷ xs) [] zs h k = elim h [ ]
one-by-one-over Related Of Other f (x ∷ xs) (y ∷ ys) [] h k = elim k [ ]
one-by-one-over Related Of Other f (x ∷ xs) (y ∷ ys) (z ∷ zs) h k = (f x y z h.0 k.0, one-by-one-over Related Of Other f xs ys zs h.1 k.1)

-- two that are alike, where they have blocks
pub alike-where-blocks : (blocks : ℕ) (one other : PassedConstruct) → PassedAlike one other → OneByOne PassedAlike (where_blocks blocks one) (where_blocks blocks other)
alike-where-blocks zero one other h = tt
alike-where-blocks (suc blocks) one other h = (h, tt)

-- ---- traces

-- a trace of a construct is one of any that is alike
trace-alike : RunsSeeVisibleSlots → (one other : PassedConstruct) (trace : Trace) → PassedAlike one other → IsItsTrace one trace → IsItsTrace other trace
trace-alike law one other trace h t = subst (λ x. IsItsTrace x trace) (sym h.rest) (record {
  logs = t.logs;
  merging = λ steps merges.
      let r = t.merging steps merges in
      record {
        result = r.result;
        run = law one.entry other.entry.slots h.stands one.guess steps one.reals.values r.result h.slots r.run;
        trapped = r.trapped;
      };
})

-- traces of what the plain run passes are those of its constructs
plain-traces : (hosts : Hosts) (p : Program) (input : List ℕ) (constructs : List Construct) (others : List Reached) (telling : List Telling) (traces : List Trace)
    → OneByOne IsItsTrace (all_passed_from hosts p input constructs others telling) traces → AreTraces hosts p input constructs others telling traces
plain-traces hosts p input [] others telling [] h = refl
plain-traces hosts p input [] others telling (t ∷ ts) h = elim h [ ]
plain-traces hosts p input (c ∷ cs) [] telling [] h = refl
plain-traces hosts p input (c ∷ cs) [] telling (t ∷ ts) h = elim h [ ]
plain-traces hosts p input (c ∷ cs) (r ∷ rs) telling traces h =
    go r.header.blocks traces h (λ ts. plain-traces hosts p input cs rs (telling ++ tells c r.header r.reals.values) ts)
  where
    later : List PassedConstruct
    later = all_passed_from hosts p input cs rs (telling ++ tells c r.header r.reals.values)

    x : PassedConstruct
    x = passed_plainly hosts telling p input c r

    go : (blocks : ℕ) (traces : List Trace) → OneByOne IsItsTrace (where_blocks blocks x ++ later) traces
        → ((ts : List Trace) → OneByOne IsItsTrace later ts → AreTraces hosts p input cs rs (telling ++ tells c r.header r.reals.values) ts)
        → begin_with blocks (λ trace. IsItsTrace x trace) (λ ts. AreTraces hosts p input cs rs (telling ++ tells c r.header r.reals.values) ts) traces
    go zero traces h more = more traces h
    go (suc blocks) [] h more = elim h [ ]
    go (suc blocks) (t ∷ ts) h more = (h.0, more ts h.1)

pub passed-have-the-traces : RunsSeeVisibleSlots → PassedHaveTheTraces
passed-have-the-traces law hosts p input progress traces whole h =
    plain-traces hosts p input (constructs_in p.main) (reals p input) [] traces
    (one-by-one-over PassedAlike IsItsTrace IsItsTrace (λ one other trace alike is. trace-alike law one other trace alike is) progress.passed _ traces whole.passed_are h)
