use Rattle.vhdl_hints.proofs.saying.push_hint.Goals as goal

pub returns-in-OpenPort : goal.returns-in-OpenPort
returns-in-OpenPort g c = rw c.in-OpenPort.is c.push_parts-in-OpenPort.ensures

pub returns-in-Outside : goal.returns-in-Outside
returns-in-Outside g c = rw c.in-Outside.is c.push_parts-in-Outside.ensures

pub returns-in-Empty : goal.returns-in-Empty
returns-in-Empty g c =
    let parts = rw (c.direction.ensures, c.direction-in-Empty.ensures, c.direction-in-Empty-2.ensures) at c.push_parts-in-Empty.ensures in
    rw c.in-Empty.is parts

pub returns-in-Actual : goal.returns-in-Actual
returns-in-Actual g c = rw c.in-Actual.is c.push_parts-in-Actual.ensures

pub returns-in-OtherType : goal.returns-in-OtherType
returns-in-OtherType g c = rw c.in-OtherType.is c.push_parts-in-OtherType.ensures

pub returns-in-Differs : goal.returns-in-Differs
returns-in-Differs g c = rw c.in-Differs.is c.push_parts-in-Differs.ensures

pub returns-in-NoPosition : goal.returns-in-NoPosition
returns-in-NoPosition g c =
    let parts = rw (c.formal_word-in-NoPosition.ensures, c.listing_of-in-NoPosition.ensures) at c.push_parts-in-NoPosition.ensures in
    rw c.in-NoPosition.is parts

pub returns-in-Measured : goal.returns-in-Measured
returns-in-Measured g c = rw c.in-Measured.is c.push_parts-in-Measured.ensures

pub returns-in-NearEntity : goal.returns-in-NearEntity
returns-in-NearEntity g c = rw c.in-NearEntity.is c.push_parts-in-NearEntity.ensures

pub returns-in-Meant : goal.returns-in-Meant
returns-in-Meant g c = rw c.in-Meant.is c.push_parts-in-Meant.ensures
