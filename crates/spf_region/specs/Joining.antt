-- How spans that are sorted by where they begin are joined, in one pass from the left.
use Rattle.std.specs.Prelude.{if◌then◌else◌, max, nat_le, List, [], ◌∷◌}
use Rattle.spf_region.specs.declared.span.Span.{Span}

-- the span that covers both
abbrev pub wider : Span → Span → Span
wider s t = record { from = s.from; to = max s.to t.to }

-- the spans after the pending one, each joined to the one before it where they meet or touch
abbrev pub joined_after : Span → List Span → List Span
joined_after pending [] = pending ∷ []
joined_after pending (s ∷ rest) = if nat_le s.from pending.to then joined_after (wider pending s) rest else pending ∷ joined_after s rest

abbrev pub joined_spans : List Span → List Span
joined_spans [] = []
joined_spans (s ∷ rest) = joined_after s rest
