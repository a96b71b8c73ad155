-- What a method makes of a part of the requests, and the count that goes with it (document 01: "A count is the number of questions asked").
use Rattle.std.specs.Prelude.{Bool, true, false, ℕ, suc, ◌+◌}
use Rattle.preference.specs.Selection.{Selection}

-- A part that is worked: what is decided so far; how many requests of the part were found to matter, which are those that a conflict
-- keeps and those that a relaxation drops; how many questions were asked.
pub record Part : Type 0 where
  pub set : Selection
  pub found : ℕ
  pub asked : ℕ

-- Two parts worked one after the other, the second one from what the first one decided.
abbrev pub together : Part → Part → Part
together p q = record { set = q.set; found = p.found + q.found; asked = p.asked + q.asked }

-- A part is entered. Where `ask` says so, one question comes first; where its answer says that something in the part matters, or none was asked,
-- the part is worked, and otherwise it is settled whole, with nothing found. A conflict asks where the last addition was not empty, and its part
-- matters where the ground stands; a relaxation asks where the part is not known to fail, and its part matters where it does not stand whole.
unfoldable pub entered : (ask matters : Bool) (settled : Selection) (worked : Part) → Part
entered false matters settled worked = worked
entered true true settled worked = record { set = worked.set; found = worked.found; asked = suc worked.asked }
entered true false settled worked = record { set = settled; found = 0; asked = 1 }
