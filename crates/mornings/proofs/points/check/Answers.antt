-- Each number's arm works in that number's system.
use Rattle.mornings.proofs.points.check.Goals as goal

pub returns-in-One : goal.returns-in-One
returns-in-One c = rw c.in-One.is c.try_point.ensures

pub returns-in-Two : goal.returns-in-Two
returns-in-Two c = rw c.in-Two.is c.try_point-in-Two.ensures

pub returns-in-Three : goal.returns-in-Three
returns-in-Three c = rw c.in-Three.is c.try_point-in-Three.ensures

pub returns-in-Five : goal.returns-in-Five
returns-in-Five c = rw c.in-Five.is c.try_point-in-Five.ensures

pub returns-in-Six : goal.returns-in-Six
returns-in-Six c = rw c.in-Six.is c.try_point-in-Six.ensures

pub returns-in-Seven : goal.returns-in-Seven
returns-in-Seven c = rw c.in-Seven.is c.try_point-in-Seven.ensures

pub returns-in-Eight : goal.returns-in-Eight
returns-in-Eight c = rw c.in-Eight.is c.try_point-in-Eight.ensures
