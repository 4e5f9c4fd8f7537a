-- What constructs add to the progress of a run.
use Rattle.std.proofs.Common.{◌≡◌, ℕ, ◌+◌, List, [], ◌∷◌, ◌++◌, refl, sym, ap, ◌∙◌, subst, arith}
use Rattle.std.proofs.lemmas.List.{append-nil, append_assoc}
use Rattle.spf_ast.specs.Carried.{Carried}
use Rattle.spf_ast.specs.Syntax.{Program}
use Rattle.spf_ast.specs.Construct.{Construct, Header, constructs_in, Reached, reals}
use Rattle.spf_guess_statistics.specs.declared.stats.Stats.{Stats}
use Rattle.spf_guess_statistics.specs.Guess.{Guess, Hosts, Telling, tells}
use Rattle.spf_guess_statistics.specs.Statistics.{none, plus, statistics_with, guess_at, tally_from, tally}
use Rattle.spf_engine_laws.specs.Passed.{PassedConstruct, where_blocks, passed_plainly, all_passed_from, OneByOne, PassedAlike}
use Rattle.spf_engine_laws.specs.Progress.{Progress, no_progress, IsCompletedBy, IsWhole}
use Rattle.spf_engine_laws.proofs.Passed.{one-by-one-append}

-- ---- sums of statistics

plus-none : (one : Stats) → plus one none ≡ one
plus-none one =
    let blocks : one.blocks + 0 ≡ one.blocks = omega arith in
    let hits : one.hits + 0 ≡ one.hits = omega arith in
    let misses : one.misses + 0 ≡ one.misses = omega arith in
    let blind : one.blind + 0 ≡ one.blind = omega arith in
    λ i. record { blocks = blocks i; hits = hits i; misses = misses i; blind = blind i }

none-plus : (one : Stats) → plus none one ≡ one
none-plus one =
    let blocks : 0 + one.blocks ≡ one.blocks = omega arith in
    let hits : 0 + one.hits ≡ one.hits = omega arith in
    let misses : 0 + one.misses ≡ one.misses = omega arith in
    let blind : 0 + one.blind ≡ one.blind = omega arith in
    λ i. record { blocks = blocks i; hits = hits i; misses = misses i; blind = blind i }

plus-plus : (one other last : Stats) → plus (plus one other) last ≡ plus one (plus other last)
plus-plus one other last =
    let blocks : one.blocks + other.blocks + last.blocks ≡ one.blocks + (other.blocks + last.blocks) = omega arith in
    let hits : one.hits + other.hits + last.hits ≡ one.hits + (other.hits + last.hits) = omega arith in
    let misses : one.misses + other.misses + last.misses ≡ one.misses + (other.misses + last.misses) = omega arith in
    let blind : one.blind + other.blind + last.blind ≡ one.blind + (other.blind + last.blind) = omega arith in
    λ i. record { blocks = blocks i; hits = hits i; misses = misses i; blind = blind i }

-- ---- the start and the end

-- at first all constructs are still to come
pub completes-all : (hosts : Hosts) (p : Program) (input : List ℕ) → IsCompletedBy hosts p input (constructs_in p.main) (reals p input) no_progress
completes-all hosts p input = record { stats_are = none-plus (tally hosts p input).stats; telling_is = refl; before = []; passed_are = tt; all_are = refl }

-- nothing that is reached adds nothing
no-tally : (hosts : Hosts) (p : Program) (input : List ℕ) (constructs : List Construct) (telling : List Telling) → tally_from hosts p input constructs [] telling ≡ record { stats = none; telling = telling }
no-tally hosts p input [] telling = refl
no-tally hosts p input (c ∷ cs) telling = refl

none-passed : (hosts : Hosts) (p : Program) (input : List ℕ) (constructs : List Construct) (telling : List Telling) → all_passed_from hosts p input constructs [] telling ≡ []
none-passed hosts p input [] telling = refl
none-passed hosts p input (c ∷ cs) telling = refl

-- progress that nothing completes is whole
pub whole-of-it : (hosts : Hosts) (p : Program) (input : List ℕ) (constructs : List Construct) (others : List Reached) (progress : Progress) → others ≡ [] → IsCompletedBy hosts p input constructs others progress → IsWhole hosts p input progress
whole-of-it hosts p input constructs others progress none_left h =
    let k = subst (λ l. IsCompletedBy hosts p input constructs l progress) none_left h in
    let t = no-tally hosts p input constructs progress.telling in
    record {
      stats_are = sym (plus-none progress.stats) ∙ ap (λ x. plus progress.stats x.stats) (sym t) ∙ k.stats_are;
      telling_is = ap (λ x. x.telling) (sym t) ∙ k.telling_is;
      passed_are = subst (OneByOne PassedAlike progress.passed)
          (sym (append-nil k.before) ∙ ap (λ l. k.before ++ l) (sym (none-passed hosts p input constructs progress.telling)) ∙ k.all_are) k.passed_are;
    }

-- ---- one construct

-- the progress with what it adds
abbrev pub and_construct : (ℕ → Guess) → Construct → Header → List Carried → List PassedConstruct → Progress → Progress
and_construct guess c h values passed progress = record {
  stats = plus progress.stats (statistics_with guess values);
  telling = progress.telling ++ tells c h values;
  passed = progress.passed ++ passed;
}

-- a construct that was reached is passed
pub completes-after : (hosts : Hosts) (p : Program) (input : List ℕ) (c : Construct) (cs : List Construct) (r : Reached) (rs : List Reached) (guess : ℕ → Guess) (values : List Carried) (passed : List PassedConstruct) (progress : Progress)
    → ((n : ℕ) → guess_at hosts progress.telling p input c r n ≡ guess n) → r.reals.values ≡ values
    → OneByOne PassedAlike passed (where_blocks r.header.blocks (passed_plainly hosts progress.telling p input c r))
    → IsCompletedBy hosts p input (c ∷ cs) (r ∷ rs) progress → IsCompletedBy hosts p input cs rs (and_construct guess c r.header values passed progress)
completes-after hosts p input c cs r rs guess values passed progress same is mine h =
    let rest = tally_from hosts p input cs rs (progress.telling ++ tells c r.header values) in
    let whole : tally_from hosts p input (c ∷ cs) (r ∷ rs) progress.telling ≡ record { stats = plus (statistics_with guess values) rest.stats; telling = rest.telling }
    = λ i. record {
      stats = plus (statistics_with (λ n. same n i) (is i)) (tally_from hosts p input cs rs (progress.telling ++ tells c r.header (is i))).stats;
      telling = (tally_from hosts p input cs rs (progress.telling ++ tells c r.header (is i))).telling;
    } in
    let here = where_blocks r.header.blocks (passed_plainly hosts progress.telling p input c r) in
    record {
      stats_are = plus-plus progress.stats (statistics_with guess values) rest.stats ∙ ap (λ x. plus progress.stats x.stats) (sym whole) ∙ h.stats_are;
      telling_is = ap (λ x. x.telling) (sym whole) ∙ h.telling_is;
      before = h.before ++ here;
      passed_are = one-by-one-append PassedAlike progress.passed h.before passed here h.passed_are mine;
      all_are = append_assoc h.before here (all_passed_from hosts p input cs rs (progress.telling ++ tells c r.header values))
          ∙ ap (λ vs. h.before ++ (here ++ all_passed_from hosts p input cs rs (progress.telling ++ tells c r.header vs))) (sym is) ∙ h.all_are;
    }
