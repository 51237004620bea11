-- What a list still has, and why a read of it failed.
use Rattle.std.specs.Prelude.{None, Some}
use Rattle.std.specs.declared.option.Option.{Option}
use Rattle.std.specs.declared.io.Error.{Error}
use Rattle.feed.specs.declared.Feed.{Feed}
use Rattle.feed.specs.declared.Rest.{Rest}

-- what the list is read from
abbrev pub read_from : {R : Type 0} → Feed R → R
read_from feed = feed.source

-- the error of the read that failed
abbrev pub error_of_rest : Rest → Option Error
error_of_rest Rest.More = None
error_of_rest Rest.Nothing = None
error_of_rest (Rest.Failed error) = Some error

abbrev pub read_error : {R : Type 0} → Feed R → Option Error
read_error feed = error_of_rest feed.rest
