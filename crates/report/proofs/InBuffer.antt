-- For a caller that lends `&mut buffer[start..]`: what the whole buffer holds when the part is back.
use Rattle.std.proofs.Common.{ℕ, ◌+◌, ◌-◌, ◌≤◌, ◌≡◌, ap, ◌∙◌, List, [], ◌++◌, append-nil, arith}
use Rattle.std.proofs.Common.{length, take, drop, length-drop, drop_of_length-le, take_all, drop-drop}
use borrow.Rule.Slice.PartMut.{mid_of, post_of, put_mid}
use Rattle.preference.specs.Selection.{Selection}
use Rattle.preference.specs.Named.{named}
use Rattle.report.specs.Report.{report_bytes}
use Rattle.report.specs.Written.{Written}

module _ (buffer : List ℕ) (start : ℕ) where
  -- the part from the start on is all that the buffer has from there on
  pub part_from : mid_of start (length buffer - start) buffer ≡ drop start buffer
  part_from = take_all (length buffer - start) (drop start buffer) (rw length-drop (omega arith))

  -- and nothing lies after it
  nothing_after : post_of start (length buffer - start) buffer ≡ []
  nothing_after = let h : length (drop start buffer) ≤ length buffer - start = rw length-drop (omega arith) in drop_of_length-le (drop start buffer) h

  -- bytes before the start and after the record stay
  pub written_in_buffer :
      {kind status count end : ℕ} {order : List ℕ} {flags : Selection} {after : List ℕ} →
      Written kind status count order flags (mid_of start (length buffer - start) buffer) after end →
      put_mid start (length buffer - start) buffer after
      ≡ take start buffer ++ (report_bytes kind status count (named order flags) ++ drop (start + end) buffer)
  written_in_buffer {kind} {status} {count} {end} {order} {flags} {after} w =
      let report : List ℕ = report_bytes kind status count (named order flags) in
      ap (λ (x : List ℕ). take start buffer ++ x)
      (ap (λ (x : List ℕ). after ++ x) nothing_after
      ∙ append-nil after
      ∙ w.bytes
      ∙ ap (λ (x : List ℕ). report ++ drop end x) part_from
      ∙ ap (λ (x : List ℕ). report ++ x) (drop-drop end start buffer))
