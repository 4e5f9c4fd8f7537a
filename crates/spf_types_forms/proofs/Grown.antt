-- Locals that are closed again at the end of a block.
use Rattle.std.proofs.Common.{◌≡◌, ℕ, Bool, false, ◌+◌, ◌-◌, List, [], ◌∷◌, ◌++◌, length, drop, refl, sym, ap, ◌∙◌, arith, append_assoc, length-append}
use Rattle.std.proofs.Math.Seq.{drop-append_seam}
use Rattle.spf_ast.specs.RawSyntax as r
use Rattle.spf_types_names.specs.Locals.{Local, Seen}
use Rattle.spf_types_names.specs.Resolved.{free, with_each, names_of, names_in, locals_after, locals_at_end, after_block}

-- the one are the other with some before them
abbrev pub IsGrown : List Local → List Local → Type 0
IsGrown ls now = (front : List Local) × (now ≡ front ++ ls)

pub grown_through : (ls ms ks : List Local) → IsGrown ls ms → IsGrown ms ks → IsGrown ls ks
grown_through ls ms ks p q = (q.0 ++ p.0, q.1 ∙ ap (λ (zs : List Local). q.0 ++ zs) p.1 ∙ sym (append_assoc q.0 p.0 ls))

-- names that are made usable
pub grown_each : (fixed : Bool) (ls : List Local) (n : ℕ) (xs : List (List ℕ)) → IsGrown ls (with_each fixed ls n xs)
grown_each fixed ls n [] = ([], refl)
grown_each fixed ls n (x ∷ xs) =
    let one : Local = record { name = x; slot = n; fixed = fixed } in
    grown_through ls (one ∷ ls) (with_each fixed (one ∷ ls) (n + 1) xs) (one ∷ [], refl) (grown_each fixed (one ∷ ls) (n + 1) xs)

grown_after : (ls : List Local) (n : ℕ) (s : r.RawStatement) → IsGrown ls (locals_after ls n s)
grown_after ls n (r.Let x value) = (free x n ∷ [], refl)
grown_after ls n (r.Assign x value) = ([], refl)
grown_after ls n (r.Store a index value) = ([], refl)
grown_after ls n (r.Fill a low high value) = ([], refl)
grown_after ls n (r.Emit value) = ([], refl)
grown_after ls n (r.Fail number) = ([], refl)
grown_after ls n (r.If test a b) = ([], refl)
grown_after ls n (r.For x low high body) = ([], refl)
grown_after ls n (r.While test most body) = ([], refl)
grown_after ls n (r.Do f given) = ([], refl)
grown_after ls n (r.Fold head body) = grown_each false ls n head.carried
grown_after ls n (r.Pair head producer consumer) = grown_each false ls n head.carried
grown_after ls n r.Break = ([], refl)

pub grown : (ls : List Local) (n : ℕ) (b : r.RawBlock) → IsGrown ls (locals_at_end ls n b)
grown ls n r.end = ([], refl)
grown ls n (r.on_line line s rest) =
    grown_through ls (locals_after ls n s) (locals_at_end (locals_after ls n s) (n + length (names_of s)) rest) (grown_after ls n s) (grown (locals_after ls n s) (n + length (names_of s)) rest)

pub closes : (ls now : List Local) (count : ℕ) → IsGrown ls now → count ≡ length ls → drop (length now - count) now ≡ ls
closes ls now count g e =
    let l : length now - count ≡ length g.0 = omega (arith, e, ap length g.1, length-append g.0 ls) in
    ap (λ m. drop m now) l ∙ ap (drop (length g.0)) g.1 ∙ drop-append_seam g.0 ls

-- what closing leaves
abbrev pub IsClosed : Seen → ℕ → Seen → Type 0
IsClosed before count now = now ≡ record { locals = drop (length before.locals - count) before.locals; slots = before.slots }

-- a block after some more locals is closed
pub closed : (old inside x now : Seen) (front : List Local) (b : r.RawBlock) (count : ℕ) → inside.locals ≡ front ++ old.locals → x ≡ after_block inside b → count ≡ length old.locals → IsClosed x count now → now ≡ record { locals = old.locals; slots = inside.slots ++ names_in b }
closed old inside x now front b count s e h c =
    let q = grown inside.locals (length inside.slots) b in
    let g = grown_through old.locals inside.locals x.locals (front, s) (q.0, ap (λ (z : Seen). z.locals) e ∙ q.1) in
    c ∙ (λ i. record { locals = closes old.locals x.locals count g h i; slots = ap (λ (z : Seen). z.slots) e i })

-- some more locals are closed
pub closed_front : (old inside x now : Seen) (front : List Local) (names : List (List ℕ)) (count : ℕ) → inside.locals ≡ front ++ old.locals → x ≡ record { locals = inside.locals; slots = inside.slots ++ names } → count ≡ length old.locals → IsClosed x count now → now ≡ record { locals = old.locals; slots = inside.slots ++ names }
closed_front old inside x now front names count s e h c =
    c ∙ (λ i. record { locals = closes old.locals x.locals count (front, ap (λ (z : Seen). z.locals) e ∙ s) h i; slots = ap (λ (z : Seen). z.slots) e i })

-- a local that is declared, and then shown
pub shown : (old declared now : Seen) (l : Local) (x : List ℕ) → declared ≡ record { locals = old.locals; slots = old.slots ++ x ∷ [] } → now ≡ record { locals = l ∷ declared.locals; slots = declared.slots } → now ≡ record { locals = l ∷ old.locals; slots = old.slots ++ x ∷ [] }
shown old declared now l x d s = s ∙ ap (λ (z : Seen). record { locals = l ∷ z.locals; slots = z.slots }) d
